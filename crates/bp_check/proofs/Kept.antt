-- What the stack keeps while splits are closed, entered and opened.
use Rattle.std.proofs.Common.{◌≡◌, ◌≢◌, inl, inr, ℕ, zero, suc, ◌+◌, ◌-◌, ◌<◌, ◌≤◌, ◌⊎◌, None, Bool, true, false, cond, eqb, not, ◌&&◌, List, [], ◌∷◌, ◌++◌, length, get_or, map, take, drop, All, AllPairs, refl, sym, ap, ◌∙◌, subst, arith, length-append}
use Rattle.std.proofs.lemmas.Bool.Decides.{Decides-eqb}
use Rattle.std.proofs.lemmas.List.{length-map, length-take, map-append, take-map, get_or-take, get_or_default, get_or_push, take_at, drop_at, take_all, drop_all, take-take}
use Rattle.std.proofs.lemmas.List.Elements.{All-map, All-push}
use Rattle.std.proofs.lemmas.List.Quantifiers.{all_pairs_push}
use Rattle.std.proofs.Math.ListN.{get_or-map}
use Rattle.bp_base.specs.declared.path.Pair.{Pair}
use Rattle.bp_base.specs.declared.path.Step.{Step}
use Rattle.bp_base.specs.declared.point.Sheet.{Sheet}
use Rattle.bp_base.specs.declared.chain.Claim.{Claim}
use Rattle.bp_base.specs.Limits.{most_leaves, most_steps}
use Rattle.bp_base.specs.Path.{IsPairOf}
use Rattle.bp_base.specs.Tree.{TreeValue, IsTree, leaf_count}
use Rattle.bp_metric.specs.Refutation.{IsOnPath}
use Rattle.bp_metric.proofs.Lows.{few_leaves}
use Rattle.bp_pairs.specs.Numbers.{pair_number}
use Rattle.bp_pairs.proofs.PairNumbers.{number_below, one_pair}
use Rattle.bp_check.specs.declared.found.Found.{Found}
use Rattle.bp_check.specs.declared.found.Found.TheVariants.{Sound, WrongSplit}
use Rattle.bp_check.specs.declared.stack.OpenSplit.{OpenSplit}
use Rattle.bp_check.specs.declared.stack.Stack.{Stack}
use Rattle.bp_check.specs.Tests.{may_split}
use Rattle.bp_check.specs.Found.{joined}
use Rattle.bp_check.specs.Stack.{step_of, path_of, stack_of, found_count, found_counts, closed, entered, one_more, with_child, opened, pairs_of, is_wrong, with_split, joined_claim, with_claim, KeepsWithin}
use Rattle.bp_check.proofs.Tested.{split_is}
use Rattle.bp_check.proofs.Joined.{joined_none, none_joined, joined_comm, joined_assoc}

no_pair : Pair
no_pair = record { i = 0; j = 0 }

number : Pair → ℕ
number p = pair_number most_leaves p + 1

-- pairs of at most 32 leaves that differ are at most 496
pub few_pairs : (pairs : List Pair) (n : ℕ) → n ≤ most_leaves → All (IsPairOf n) pairs → AllPairs (λ a b. a ≢ b) pairs → length pairs ≤ most_steps
unfolding number
few_pairs pairs n few are differ =
    let small : (k : ℕ) (d : Pair) → k < length pairs → IsPairOf most_leaves (get_or pairs k d) = λ k d less. (let is = are k d less in (is.0, is.1, omega (arith, is.2, few))) in
    let at : (k d : ℕ) → k < length pairs → get_or (map number pairs) k d ≡ number (get_or pairs k no_pair) = λ k d less. get_or_default (map number pairs) k d (number no_pair) (omega (arith, length-map pairs number, less)) ∙ get_or-map number pairs k no_pair in
    let within : All (λ i. (1 ≤ i) × (i ≤ 496)) (map number pairs) = All-map (λ i. (1 ≤ i) × (i ≤ 496)) number pairs (λ k d less. (omega arith, omega (arith, number_below most_leaves (get_or pairs k d) (small k d less)))) in
    let apart : AllPairs (λ a b. a ≢ b) (map number pairs) = λ k l d less in_list same. (
    let l_less : l < length pairs = omega (arith, in_list, length-map pairs number) in
    let k_less : k < length pairs = omega (arith, less, l_less) in
    differ k l no_pair less l_less
    (one_pair most_leaves (get_or pairs k no_pair) (get_or pairs l no_pair) (small k no_pair k_less) (small l no_pair l_less)
    (omega (arith, same, at k d k_less, at l d l_less))))
    in omega (arith, few_leaves 496 (map number pairs) within apart, length-map pairs number)

pub last_is : {X : Type 0} (xs ys : List X) (x y : X) → xs ++ x ∷ [] ≡ ys ++ y ∷ [] → xs ≡ ys
last_is xs ys x y same =
    let long : length xs ≡ length ys = omega (arith, ap length same, length-append xs (x ∷ []), length-append ys (y ∷ [])) in
    sym (take_at xs (x ∷ []) (length xs) refl) ∙ ap (take (length xs)) same ∙ take_at ys (y ∷ []) (length xs) (sym long)

pub child_last : (splits : List OpenSplit) (o : OpenSplit) → with_child (splits ++ o ∷ []) ≡ splits ++ one_more o ∷ []
child_last [] o = refl
child_last (x ∷ []) o = refl
child_last (x ∷ y ∷ splits) o = ap (λ (l : List OpenSplit). x ∷ l) (child_last (y ∷ splits) o)

pub child_pairs : (splits : List OpenSplit) → pairs_of (with_child splits) ≡ pairs_of splits
child_pairs [] = refl
child_pairs (x ∷ []) = refl
child_pairs (x ∷ y ∷ splits) = ap (λ (l : List Pair). x.pair ∷ l) (child_pairs (y ∷ splits))

pub child_length : (splits : List OpenSplit) → length (with_child splits) ≡ length splits
child_length [] = refl
child_length (x ∷ []) = refl
child_length (x ∷ y ∷ splits) = ap suc (child_length (y ∷ splits))

child_seen : (splits : List OpenSplit) (most : ℕ) → All (λ (o : OpenSplit). o.seen ≤ most) splits → All (λ (o : OpenSplit). o.seen ≤ most + 1) (with_child splits)
child_seen [] most all k d less = absurd (omega (arith, less))
child_seen (x ∷ []) most all zero d less = omega (arith, all zero x (omega arith))
child_seen (x ∷ []) most all (suc k) d less = absurd (omega (arith, less))
child_seen (x ∷ y ∷ splits) most all zero d less = omega (arith, all zero x (omega arith))
child_seen (x ∷ y ∷ splits) most all (suc k) d less =
    child_seen (y ∷ splits) most (λ l e within. all (suc l) e (omega (arith, within))) k d (omega (arith, less))

pub small_pair : (n : ℕ) (p : Pair) → n ≤ most_leaves → IsPairOf n p → IsPairOf most_leaves p
small_pair n p few is = (is.0, is.1, omega (arith, is.2, few))

pub cases_bool : (b : Bool) → (b ≡ true) ⊎ (b ≡ false)
cases_bool true = inl refl
cases_bool false = inr refl

pub eqb-is : (a b : ℕ) → a ≡ b → eqb a b ≡ true
eqb-is a b is = (Decides-eqb a b).1 is

pub eqb-not : (a b : ℕ) → (a ≡ b → ⊥) → eqb a b ≡ false
eqb-not a b not = elim (cases_bool (eqb a b)) [ inl is ↦ absurd (not ((Decides-eqb a b).0 is)) | inr is ↦ is ]

module _ (T : TreeValue) (G : Sheet) where
  pub same_stack : (N : Stack) (splits : List OpenSplit) (count : ℕ) (found : Found) → N.path ≡ path_of T G splits → N.splits ≡ splits → N.count ≡ count → N.found ≡ found → N ≡ stack_of T G splits count found
  same_stack N splits count found path is counted found_is = λ i. record { path = path i; splits = is i; count = counted i; found = found_is i }

  -- a stack is what its splits, its count and what was found make it
  pub stack_is : (S : Stack) → S.path ≡ path_of T G S.splits → S ≡ stack_of T G S.splits S.count S.found
  stack_is S path = same_stack S S.splits S.count S.found path refl refl refl

  counts_split : (xs : List OpenSplit) (e : ℕ) → found_counts T G xs ≡ joined (found_counts T G (take e xs)) (found_counts T G (drop e xs))
  counts_split xs zero = sym (none_joined (found_counts T G xs))
  counts_split [] (suc e) = refl
  counts_split (x ∷ xs) (suc e) =
      ap (joined (found_count T G x)) (counts_split xs e) ∙ sym (joined_assoc (found_count T G x) (found_counts T G (take e xs)) (found_counts T G (drop e xs)))

  counts_cut : (xs : List OpenSplit) (d e : ℕ) → d ≤ e → found_counts T G (drop d xs) ≡ joined (found_counts T G (drop d (take e xs))) (found_counts T G (drop e xs))
  counts_cut xs zero e less = counts_split xs e
  counts_cut xs (suc d) zero less = absurd (omega (arith, less))
  counts_cut [] (suc d) (suc e) less = refl
  counts_cut (x ∷ xs) (suc d) (suc e) less = counts_cut xs d e (omega (arith, less))

  pub closed_closed : (S : Stack) (d e : ℕ) → d ≤ e → closed T G d (closed T G e S) ≡ closed T G d S
  unfolding closed
  closed_closed S d e less =
      let later = found_counts T G (drop e S.splits) in
      let between = found_counts T G (drop d (take e S.splits)) in
      let found : joined (joined S.found later) between ≡ joined S.found (found_counts T G (drop d S.splits)) = joined_assoc S.found later between ∙ ap (joined S.found) (joined_comm later between ∙ sym (counts_cut S.splits d e less)) in
      λ i. stack_of T G (take-take d e S.splits less i) S.count (found i)

  pub closed_done : (S : Stack) (d : ℕ) → S.path ≡ path_of T G S.splits → length S.splits ≤ d → closed T G d S ≡ S
  unfolding closed
  closed_done S d path few =
      sym (same_stack S (take d S.splits) S.count (joined S.found (found_counts T G (drop d S.splits))) (path ∙ ap (path_of T G) (sym (take_all d S.splits few))) (sym (take_all d S.splits few)) refl
      (sym (ap (λ (l : List OpenSplit). joined S.found (found_counts T G l)) (drop_all d S.splits few) ∙ joined_none S.found)))

  pub closed_last : (S : Stack) (rest : List OpenSplit) (o : OpenSplit) (d : ℕ) → S.splits ≡ rest ++ o ∷ [] → d ≡ length rest → closed T G d S ≡ stack_of T G rest S.count (joined S.found (found_count T G o))
  unfolding closed
  closed_last S rest o d is at =
      let front : take d S.splits ≡ rest = ap (take d) is ∙ take_at rest (o ∷ []) d (sym at) in
      let back : drop d S.splits ≡ o ∷ [] = ap (drop d) is ∙ drop_at rest (o ∷ []) d (sym at) in
      let found : joined S.found (found_counts T G (drop d S.splits)) ≡ joined S.found (found_count T G o) = ap (λ (l : List OpenSplit). joined S.found (found_counts T G l)) back ∙ ap (joined S.found) (joined_none (found_count T G o)) in
      λ i. stack_of T G (front i) S.count (found i)

  -- the path without its last step
  pub path_front : (path front : List Step) (step : Step) (splits rest : List OpenSplit) (o : OpenSplit) → path ≡ path_of T G splits → splits ≡ rest ++ o ∷ [] → path ≡ front ++ step ∷ [] → front ≡ path_of T G rest
  path_front path front step splits rest o is split cut =
      last_is front (path_of T G rest) step (step_of T G o) (sym cut ∙ is ∙ ap (path_of T G) split ∙ map-append (step_of T G) rest (o ∷ []))

  pub path_push : (front : List Step) (rest : List OpenSplit) (o : OpenSplit) → front ≡ path_of T G rest → front ++ step_of T G o ∷ [] ≡ path_of T G (rest ++ o ∷ [])
  path_push front rest o is = ap (λ (l : List Step). l ++ step_of T G o ∷ []) is ∙ sym (map-append (step_of T G) rest (o ∷ []))

  pub keeps_splits : (most : ℕ) (S : Stack) (splits : List OpenSplit) (count : ℕ) (found : Found) → All (IsPairOf (leaf_count T)) (pairs_of splits) → AllPairs (λ a b. a ≢ b) (pairs_of splits) → All (λ (o : OpenSplit). o.seen ≤ most) splits → KeepsWithin T G most (stack_of T G splits count found)
  keeps_splits most S splits count found pairs differ seen = record { path = refl; pairs = pairs; differ = differ; seen = seen }

  pub keeps_front : (most d : ℕ) (S : Stack) (count : ℕ) (found : Found) → KeepsWithin T G most S → KeepsWithin T G most (stack_of T G (take d S.splits) count found)
  keeps_front most d S count found kept =
      let pairs : pairs_of (take d S.splits) ≡ take d (pairs_of S.splits) = sym (take-map (λ (o : OpenSplit). o.pair) d S.splits) in
      record {
        path = refl;
        pairs = subst (All (IsPairOf (leaf_count T))) (sym pairs) (front_all (IsPairOf (leaf_count T)) (pairs_of S.splits) d kept.pairs);
        differ = subst (AllPairs (λ (a b : Pair). a ≢ b)) (sym pairs) (front_pairs (pairs_of S.splits) d kept.differ);
        seen = front_all (λ (o : OpenSplit). o.seen ≤ most) S.splits d kept.seen;
      }
    where
      front_all : {X : Type 0} (P : X → Type 0) (xs : List X) (n : ℕ) → All P xs → All P (take n xs)
      front_all P xs n all k e less =
          let k_n : k < n = omega (arith, less, length-take n xs) in
          subst P (sym (get_or-take n xs k e k_n)) (all k e (omega (arith, less, length-take n xs)))

      front_pairs : (xs : List Pair) (n : ℕ) → AllPairs (λ a b. a ≢ b) xs → AllPairs (λ a b. a ≢ b) (take n xs)
      front_pairs xs n all k l e less within =
          let l_n : l < n = omega (arith, within, length-take n xs) in
          let k_n : k < n = omega (arith, less, l_n) in
          λ same. all k l e less (omega (arith, within, length-take n xs)) (sym (get_or-take n xs k e k_n) ∙ same ∙ get_or-take n xs l e l_n)

  pub keeps_closed : (most d : ℕ) (S : Stack) → KeepsWithin T G most S → KeepsWithin T G most (closed T G d S)
  unfolding closed
  keeps_closed most d S kept = keeps_front most d S S.count (joined S.found (found_counts T G (drop d S.splits))) kept

  pub keeps_child : (most : ℕ) (S : Stack) (count : ℕ) (found : Found) → KeepsWithin T G most S → KeepsWithin T G (most + 1) (stack_of T G (with_child S.splits) count found)
  keeps_child most S count found kept = record {
    path = refl;
    pairs = subst (All (IsPairOf (leaf_count T))) (sym (child_pairs S.splits)) kept.pairs;
    differ = subst (AllPairs (λ (a b : Pair). a ≢ b)) (sym (child_pairs S.splits)) kept.differ;
    seen = child_seen S.splits most kept.seen;
  }

  pub keeps_more : (most more : ℕ) (S : Stack) → most ≤ more → KeepsWithin T G most S → KeepsWithin T G more S
  keeps_more most more S less kept =
      record { path = kept.path; pairs = kept.pairs; differ = kept.differ; seen = λ k d within. omega (arith, kept.seen k d within, less) }

  pub keeps_same : (most : ℕ) (S N : Stack) → N.path ≡ S.path → N.splits ≡ S.splits → KeepsWithin T G most S → KeepsWithin T G most N
  keeps_same most S N path splits kept = record {
    path = path ∙ kept.path ∙ ap (path_of T G) (sym splits);
    pairs = subst (λ (l : List OpenSplit). All (IsPairOf (leaf_count T)) (pairs_of l)) (sym splits) kept.pairs;
    differ = subst (λ (l : List OpenSplit). AllPairs (λ (a b : Pair). a ≢ b) (pairs_of l)) (sym splits) kept.differ;
    seen = subst (All (λ (o : OpenSplit). o.seen ≤ most)) (sym splits) kept.seen;
  }

  -- a split that may be opened has a pair that no open split has
  new_pair : (S : Stack) (p : Pair) → S.path ≡ path_of T G S.splits → (IsOnPath S.path p → ⊥) → (k : ℕ) (d : Pair) → k < length (pairs_of S.splits) → get_or (pairs_of S.splits) k d ≢ p
  unfolding step_of
  new_pair S p path new k d less same =
      let within : k < length S.splits = omega (arith, less, length-map S.splits (λ (o : OpenSplit). o.pair)) in
      let o : OpenSplit = get_or S.splits k (record { pair = d; node = 0; seen = 0 }) in
      let there : get_or (pairs_of S.splits) k d ≡ o.pair = get_or-map (λ (x : OpenSplit). x.pair) S.splits k (record { pair = d; node = 0; seen = 0 }) in
      let step = step_of T G o in
      let long : length (path_of T G S.splits) ≡ length S.splits = length-map S.splits (step_of T G) in
      let at : get_or (path_of T G S.splits) k step ≡ step = get_or_default (path_of T G S.splits) k step (step_of T G (record { pair = d; node = 0; seen = 0 })) (omega (arith, long, within)) ∙ get_or-map (step_of T G) S.splits k (record { pair = d; node = 0; seen = 0 }) in
      new (k, step, omega (arith, ap length path, long, within), ap (λ (l : List Step). get_or l k step) path ∙ at, sym there ∙ same)

  pub split_pair : (path : List Step) (p : Pair) → may_split (leaf_count T) path p ≡ true → IsPairOf (leaf_count T) p
  split_pair path p may = ((split_is (leaf_count T) path p).0 may).0

  pub keeps_open : (most node : ℕ) (S : Stack) (p : Pair) (count : ℕ) (found : Found) → may_split (leaf_count T) S.path p ≡ true → KeepsWithin T G most S → KeepsWithin T G most (stack_of T G (S.splits ++ opened node p ∷ []) count found)
  keeps_open most node S p count found may kept =
      let good = (split_is (leaf_count T) S.path p).0 may in
      let pairs : pairs_of (S.splits ++ opened node p ∷ []) ≡ pairs_of S.splits ++ p ∷ [] = map-append (λ (o : OpenSplit). o.pair) S.splits (opened node p ∷ []) in
      record {
        path = refl;
        pairs = subst (All (IsPairOf (leaf_count T))) (sym pairs) (All-push (IsPairOf (leaf_count T)) (pairs_of S.splits) p kept.pairs good.0);
        differ = subst (AllPairs (λ (a b : Pair). a ≢ b)) (sym pairs) (all_pairs_push (λ (a b : Pair). a ≢ b) (pairs_of S.splits) p kept.differ (new_pair S p kept.path good.1));
        seen = All-push (λ (o : OpenSplit). o.seen ≤ most) S.splits (opened node p) kept.seen (omega arith);
      }

  -- a path has room for one more pair
  pub room_for : (t : IsTree T) (most node : ℕ) (S : Stack) (p : Pair) → may_split (leaf_count T) S.path p ≡ true → KeepsWithin T G most S → length S.path < most_steps
  room_for t most node S p may kept =
      let more = keeps_open most node S p 0 (Sound None) may kept in
      let few = few_pairs (pairs_of (S.splits ++ opened node p ∷ [])) (leaf_count T) t.leaves_few more.pairs more.differ in
      omega (arith, few, ap length kept.path, length-map S.splits (step_of T G), length-map (S.splits ++ opened node p ∷ []) (λ (o : OpenSplit). o.pair), length-append S.splits (opened node p ∷ []))

  pub few_steps : (t : IsTree T) (most : ℕ) (S : Stack) → KeepsWithin T G most S → length S.path ≤ most_steps
  few_steps t most S kept =
      let few = few_pairs (pairs_of S.splits) (leaf_count T) t.leaves_few kept.pairs kept.differ in
      omega (arith, few, ap length kept.path, length-map S.splits (step_of T G), length-map S.splits (λ (o : OpenSplit). o.pair))

  -- the last open split has a pair of leaves
  pub last_pair : (most : ℕ) (S : Stack) (rest : List OpenSplit) (o : OpenSplit) → S.splits ≡ rest ++ o ∷ [] → KeepsWithin T G most S → IsPairOf (leaf_count T) o.pair
  last_pair most S rest o is kept =
      let pairs : pairs_of S.splits ≡ pairs_of rest ++ o.pair ∷ [] = ap pairs_of is ∙ map-append (λ (x : OpenSplit). x.pair) rest (o ∷ []) in
      let at : get_or (pairs_of S.splits) (length (pairs_of rest)) o.pair ≡ o.pair = ap (λ (l : List Pair). get_or l (length (pairs_of rest)) o.pair) pairs ∙ get_or_push (pairs_of rest) o.pair o.pair (length (pairs_of rest)) refl in
      subst (IsPairOf (leaf_count T)) at (kept.pairs (length (pairs_of rest)) o.pair (omega (arith, ap length pairs, length-append (pairs_of rest) (o.pair ∷ []))))

  pub step_pair : (o : OpenSplit) (step : Step) → step ≡ step_of T G o → IsPairOf most_leaves o.pair → IsPairOf most_leaves step.pair
  unfolding step_of
  step_pair o step is small = subst (λ (s : Step). IsPairOf most_leaves s.pair) (sym is) small

  pub close_is : (S N : Stack) (o : OpenSplit) (step : Step) → S.path ≡ path_of T G S.splits → S.splits ≡ N.splits ++ o ∷ [] → S.path ≡ N.path ++ step ∷ [] → N.count ≡ S.count → N.found ≡ joined S.found (found_count T G o) → N ≡ closed T G (length S.splits - 1) S
  close_is S N o step path is cut count found =
      same_stack N N.splits S.count (joined S.found (found_count T G o)) (path_front S.path N.path step S.splits N.splits o path is cut) refl count found
      ∙ sym (closed_last S N.splits o (length S.splits - 1) is (omega (arith, ap length is, length-append N.splits (o ∷ []))))

  pub enter_is : (S N : Stack) (front : List Step) (rest : List OpenSplit) (o : OpenSplit) (step : Step) → S.path ≡ path_of T G S.splits → S.splits ≡ rest ++ o ∷ [] → S.path ≡ front ++ step ∷ [] → N.path ≡ front ++ step_of T G (one_more o) ∷ [] → N.splits ≡ rest ++ one_more o ∷ [] → N.count ≡ S.count → N.found ≡ S.found → N ≡ stack_of T G (with_child S.splits) S.count S.found
  enter_is S N front rest o step path is cut now splits count found =
      let child : with_child S.splits ≡ rest ++ one_more o ∷ [] = ap with_child is ∙ child_last rest o in
      let whole : N.path ≡ path_of T G (with_child S.splits) = now ∙ path_push front rest (one_more o) (path_front S.path front step S.splits rest o path is cut) ∙ ap (path_of T G) (sym child) in
      same_stack N (with_child S.splits) S.count S.found whole (splits ∙ sym child) count found

  pub entered_last : (S : Stack) (depth : ℕ) → length S.splits ≡ depth → entered T G depth S ≡ stack_of T G (with_child S.splits) S.count S.found
  unfolding entered
  entered_last S depth is = ap (λ (b : Bool). stack_of T G (cond b (with_child S.splits) S.splits) S.count S.found) (eqb-is (length S.splits) depth is)

  pub entered_other : (S : Stack) (depth : ℕ) → (length S.splits ≡ depth → ⊥) → entered T G depth S ≡ stack_of T G S.splits S.count S.found
  unfolding entered
  entered_other S depth other = ap (λ (b : Bool). stack_of T G (cond b (with_child S.splits) S.splits) S.count S.found) (eqb-not (length S.splits) depth other)

  pub entered_none : (S : Stack) (depth : ℕ) → S.path ≡ path_of T G S.splits → (length S.splits ≡ depth → ⊥) → entered T G depth S ≡ S
  entered_none S depth path other = entered_other S depth other ∙ sym (stack_is S path)

  pub claim_is : (S N : Stack) (claim : Claim) → S.path ≡ path_of T G S.splits → N.path ≡ S.path → N.splits ≡ S.splits → N.count ≡ S.count + 1 → N.found ≡ joined_claim T G S.found S.count S.path claim → N ≡ with_claim T G claim S
  unfolding with_claim
  claim_is S N claim path same splits count found =
      same_stack N S.splits (S.count + 1) (joined_claim T G S.found S.count S.path claim) (same ∙ path) splits count found

  abbrev may_open : Stack → Pair → Bool
  may_open S p = not (is_wrong S.found) && may_split (leaf_count T) S.path p

  abbrev with_opened : Stack → Pair → Stack
  with_opened S p = stack_of T G (S.splits ++ opened S.count p ∷ []) (S.count + 1) S.found

  abbrev with_refused : Stack → Stack
  with_refused S = stack_of T G S.splits (S.count + 1) (joined S.found (WrongSplit S.count))

  pub split_opened : (S : Stack) (p : Pair) → may_open S p ≡ true → with_split T G p S ≡ with_opened S p
  unfolding with_split
  split_opened S p may = ap (λ (b : Bool). cond b (with_opened S p) (with_refused S)) may

  pub split_not : (S : Stack) (p : Pair) → may_open S p ≡ false → with_split T G p S ≡ with_refused S
  unfolding with_split
  split_not S p may = ap (λ (b : Bool). cond b (with_opened S p) (with_refused S)) may

  pub split_refused : (S N : Stack) (p : Pair) → may_open S p ≡ false → S.path ≡ path_of T G S.splits → N.path ≡ S.path → N.splits ≡ S.splits → N.count ≡ S.count + 1 → N.found ≡ joined S.found (WrongSplit S.count) → N ≡ with_split T G p S
  split_refused S N p may path same splits count found =
      same_stack N S.splits (S.count + 1) (joined S.found (WrongSplit S.count)) (same ∙ path) splits count found ∙ sym (split_not S p may)
