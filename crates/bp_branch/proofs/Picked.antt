-- Paths whose pairs were each picked by next are branches, and those of the stated tree are such paths.
use Rattle.std.proofs.Common.{◌≡◌, ◌≢◌, ℕ, zero, suc, ◌+◌, ◌<◌, ◌≤◌, List, [], ◌∷◌, ◌++◌, length, map, get_or, take, Some, sym, ◌∙◌, ap, subst, arith, inl, inr}
use Rattle.std.specs.List.{All, AllPairs, Contains}
use Rattle.std.proofs.lemmas.List.{length-append, length-map, get_or_append_left, take_all, take-append-le, get_or_at}
use Rattle.std.proofs.lemmas.List.Quantifiers.{all_pairs_push}
use Rattle.std.proofs.lemmas.List.Elements.{All-map, All-push}
use Rattle.std.proofs.lemmas.List.{get_or-map}
use Rattle.std.proofs.lemmas.Bool.{cases_lt, eqb-true}
use Rattle.std.proofs.lemmas.Bool.Decides.{Decides-eqb}
use Rattle.std.proofs.lemmas.Map.Views.{Contains-from_any}
use Rattle.std.proofs.lemmas.Map.Steps.{length-le_from_distinct_below}
use Rattle.std.proofs.lemmas.Map.Made.{IsDistinct-from_AllPairs}
use Rattle.std.proofs.lemmas.Option.{slice_get-get_or, get_or_from_slice_get}
use Rattle.bp_base.specs.declared.path.Choice.{Choice}
use Rattle.bp_base.specs.declared.path.Choice.TheVariants.{Left}
use Rattle.bp_base.specs.declared.path.Pair.{Pair}
use Rattle.bp_base.specs.declared.path.Step.{Step}
use Rattle.bp_base.specs.declared.point.Sheet.{Sheet}
use Rattle.bp_base.specs.Path.{IsPairOf}
use Rattle.bp_base.specs.Tree.{TreeValue, IsTree, leaf_count}
use Rattle.bp_metric.specs.Chains.{HasCycle}
use Rattle.bp_metric.specs.Chains.{HasPairsOf}
use Rattle.bp_metric.specs.Choices.{allowed}
use Rattle.bp_metric.specs.Next.{IsNextPair}
use Rattle.bp_metric.specs.Refutation.{extended}
use Rattle.bp_metric.specs.Stated.{IsInner, IsStatedFor}
use Rattle.bp_metric.proofs.Chains.{take_step}
use Rattle.bp_pairs.specs.Numbers.{pair_number, pair_count}
use Rattle.bp_pairs.proofs.PairNumbers.{number_below, one_pair}
use Rattle.bp_branch.specs.Branches.{IsPicked, IsBranch}
use Rattle.bp_branch.proofs.Branches.{next_new, no_new_cycle}

module _ (T : TreeValue) (t : IsTree T) where
  root_branch : IsBranch T []
  root_branch = record {
    pairs = λ k d less. absurd (omega arith);
    differ = λ i j d less within. absurd (omega arith);
    no_cycle = λ c. none c;
  }
    where
      none : HasCycle (leaf_count T) [] → ⊥
      none (axis, (leaves, cycle)) = absurd cycle.closed

  -- one step more, for the next pair
  pub longer_branch : (path : List Step) (s : Step) → IsBranch T path → IsNextPair T path s.pair → IsBranch T (path ++ s ∷ [])
  longer_branch path s b next =
      let new = next_new T t path b.pairs b.no_cycle s.pair next in
      record {
        pairs = All-push (λ (r : Step). IsPairOf (leaf_count T) r.pair) path s b.pairs next.pair;
        differ = all_pairs_push (λ (r q : Step). r.pair ≢ q.pair) path s b.differ (λ k d less same. new.new (k, get_or path k d, less, get_or_default k d less, same));
        no_cycle = λ c. no_new_cycle T t path s b.pairs next.pair b.no_cycle next.near c.0 c.1.0 c.1.1;
      }
    where
      get_or_default : (k : ℕ) (d : Step) → k < length path → get_or path k (get_or path k d) ≡ get_or path k d
      get_or_default k d less = get_or_from_slice_get path k (get_or path k d) (get_or path k d) (slice_get-get_or path k d less)

  front_branch : (path : List Step) → IsPicked T path → (k : ℕ) → k ≤ length path → IsBranch T (take k path)
  front_branch path picked zero within = root_branch
  front_branch path picked (suc k) within =
      let at = picked k (omega arith) in
      let one_more : suc k ≡ k + 1 = omega arith in
      let e : take (suc k) path ≡ take k path ++ at.step ∷ [] = ap (λ (m : ℕ). take m path) one_more ∙ take_step path k at.step at.is in
      subst (IsBranch T) (sym e) (longer_branch (take k path) at.step (front_branch path picked k (omega arith)) at.next)

  pub picked_branch : (path : List Step) → IsPicked T path → IsBranch T path
  picked_branch path picked = subst (IsBranch T) (take_all (length path) path (omega arith)) (front_branch path picked (length path) (omega arith))

  pub stated_picked : (G : Sheet) (u : ℕ) (path : List Step) → IsStatedFor T G u path → IsPicked T path
  stated_picked G u path stated k less =
      let at = stated k less in record { step = at.step; is = at.is; next = at.inner.next }

  -- one step more in the stated tree
  pub child_stated : (G : Sheet) (u : ℕ) (path : List Step) (p : Pair) (c : Choice) → IsStatedFor T G u path → IsInner T G u path p → Contains (allowed T G p) c → IsStatedFor T G u (extended path p c)
  child_stated G u path p c stated inner among k less = elim (cases_lt k (length path)) [
    | inl front ↦
        let at = stated k front in
        record {
          step = at.step;
          is = slice_get-get_or (path ++ last ∷ []) k at.step less ∙ ap Some (get_or_append_left path (last ∷ []) at.step k front ∙ get_or_from_slice_get path k at.step at.step at.is);
          inner = subst (λ (q : List Step). IsInner T G u q at.step.pair) (sym (take-append-le k path (last ∷ []) (omega arith))) at.inner;
          choice = at.choice;
        }
    | inr back ↦
        let long : length (path ++ last ∷ []) ≡ length path + 1 = length-append path (last ∷ []) in
        let here : k ≡ length path = omega (arith, long) in
        let front : take k (path ++ last ∷ []) ≡ path = take-append-le k path (last ∷ []) (omega arith) ∙ take_all k path (omega arith) in
        record {
          step = last;
          is = slice_get-get_or (path ++ last ∷ []) k last less ∙ ap Some (at_end k here);
          inner = subst (λ (q : List Step). IsInner T G u q p) (sym front) inner;
          choice = among;
        }
  ]
    where
      last : Step
      last = record { pair = p; choice = c }

      at_end : (k : ℕ) → k ≡ length path → get_or (path ++ last ∷ []) k last ≡ last
      at_end k here = get_or_at path last [] last k (sym here)

  -- different pairs of n leaves are at most as many as there are
  pub differing_short : (path : List Step) → HasPairsOf (leaf_count T) path → AllPairs (λ (s t : Step). s.pair ≢ t.pair) path → length path ≤ pair_count (leaf_count T)
  differing_short path of_leaves apart =
      omega (arith, few, length-map path number)
    where
      number : Step → ℕ
      number s = pair_number (leaf_count T) s.pair

      some_step : Step
      some_step = record { pair = record { i = 1; j = 2 }; choice = Left }

      numbers : List ℕ
      numbers = map number path

      numbered : (k d : ℕ) → k < length path → get_or numbers k d ≡ number (get_or path k some_step)
      numbered k d less =
          get_or-map number path k some_step d less

      differ : AllPairs (λ a b. a ≢ b) numbers
      differ i j d less within same =
          let long : length numbers ≡ length path = length-map path number in
          let one = of_leaves i some_step (omega arith) in
          let other = of_leaves j some_step (omega arith) in
          let equal : number (get_or path i some_step) ≡ number (get_or path j some_step) =
          sym (numbered i d (omega arith)) ∙ same ∙ numbered j d (omega arith) in
          apart i j some_step less (omega arith) (one_pair (leaf_count T) (get_or path i some_step).pair (get_or path j some_step).pair one other equal)

      below : All (λ k. k < pair_count (leaf_count T)) numbers
      below = All-map (λ k. k < pair_count (leaf_count T)) number path (λ k d less. number_below (leaf_count T) (get_or path k d).pair (of_leaves k d less))

      few : length numbers ≤ pair_count (leaf_count T)
      few =
          length-le_from_distinct_below numbers (pair_count (leaf_count T)) (IsDistinct-from_AllPairs Decides-eqb numbers differ) (λ q there. let c = Contains-from_any (λ x y e. eqb-true x y e) q numbers there in subst (λ (i : ℕ). i < pair_count (leaf_count T)) c.2 (below c.0 q c.1))

  pub branch_short : (path : List Step) → IsBranch T path → length path ≤ pair_count (leaf_count T)
  branch_short path b = differing_short path b.pairs b.differ
