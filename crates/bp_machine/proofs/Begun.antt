-- The facts of the machine hold where it begins.
use Rattle.std.proofs.Common.{◌≡◌, ◌≤◌, inl, ℕ, zero, suc, ◌+◌, ◌-◌, min, List, [], ◌∷◌, ◌++◌, All, refl, sym, ap, ◌∙◌, subst, arith}
use Rattle.std.specs.List.{flat_map, range_with_len, sum_by}
use Rattle.std.proofs.Math.ListN.{replicate}
use Rattle.std.proofs.lemmas.List.{replicate_more}
use Rattle.std.proofs.lemmas.List.Concat.{flat_map-cons}
use Rattle.std.proofs.lemmas.List.Elements.{All-cons, All-replicate}
use Rattle.bp_base.specs.declared.point.Point.{Point}
use Rattle.bp_base.specs.declared.record.Record.{Record}
use Rattle.bp_base.specs.declared.record.Task.{Task}
use Rattle.bp_base.specs.Bags.{AreSame}
use Rattle.bp_metric.specs.Metric.{MetricValue}
use Rattle.bp_metric.specs.Opening.{IsOpening, IsOpeningSide, side_of}
use Rattle.bp_metric.specs.Records.{IsBalanced}
use Rattle.bp_opening.proofs.Unique.{one_opening}
use Rattle.bp_core.proofs.Left.{one_side}
use Rattle.bp_core.specs.Underway.{IsLeft}
use Rattle.bp_machine.specs.Facts.{HasFacts, HasHandFacts, IsLeastSide, all_tasks, tasks_of, tickets_of, told}
use Rattle.bp_machine.specs.State.{HandValue, StateValue, begun, begun_hands, fresh}

-- hands that have nothing give nothing
none_of : {A : Type 0} (f : HandValue → List A) (h : HandValue) → f h ≡ [] → (n : ℕ) → flat_map f (replicate n h) ≡ []
none_of f h none zero = refl
none_of f h none (suc n) = flat_map-cons f h (replicate n h) ∙ ap (λ xs. xs ++ flat_map f (replicate n h)) none ∙ none_of f h none n

module _ (M : MetricValue) (points : List Point) (side floor hands budget : ℕ) (opening : IsOpening M.tree M.sheet points) (is : side ≡ side_of M.sheet points) where
  abbrev root : Task
  root = record { path = []; bound = side }

  abbrev S : StateValue
  S = begun M side floor hands budget

  is_side : IsOpeningSide M.tree M.sheet side
  is_side = record { opening = points; is_opening = opening; is_side = is }

  first_of : {A : Type 0} (f : HandValue → List A) → f (fresh side []) ≡ [] → flat_map f S.hands ≡ f (fresh side (root ∷ [])) ++ []
  first_of f none =
      flat_map-cons f (fresh side (root ∷ [])) (replicate (hands - 1) (fresh side []))
      ∙ ap (λ xs. f (fresh side (root ∷ [])) ++ xs) (none_of f (fresh side []) none (hands - 1))

  root_left : IsLeft M.tree M.sheet side root
  root_left = record {
    stated = λ u is_u k less. absurd (omega (arith, less));
    no_less = omega arith;
    no_more = λ u is_u. omega (arith, one_side M.tree M.sheet (one_opening M.tree M.sheet) side u is_side is_u);
  }

  fresh_facts : (tasks : List Task) → All (IsLeft M.tree M.sheet side) (tasks_of (fresh side tasks)) → HasHandFacts M.tree M.sheet side side (fresh side tasks)
  fresh_facts tasks left = record {
    known_no_less = omega arith;
    known_no_more = omega arith;
    sound = λ k d less. absurd (omega (arith, less));
    given = λ k d less. absurd (omega (arith, less));
    tasks = left;
    best = omega arith;
    placed = refl;
    takes = omega arith;
  }

  no_tickets : AreSame [] (range_with_len 0 (min 0 budget))
  no_tickets h =
      let none : min 0 budget ≡ 0 = omega arith in
      sym (ap (λ (n : ℕ). sum_by h (range_with_len 0 n)) none)

  pub begun_facts : HasFacts M.tree M.sheet S
  begun_facts = record {
    opening_side = side;
    is_opening_side = is_side;
    conservation =
        subst (λ (rs : List Record). IsBalanced M.tree M.sheet rs (all_tasks S)) (sym (first_of (λ (h : HandValue). h.records) refl))
        (subst (IsBalanced M.tree M.sheet []) (sym (first_of tasks_of refl)) (λ h. refl));
    least_side =
        subst (IsLeastSide M.tree M.sheet side side) (sym (first_of (λ (h : HandValue). told h h.place) refl))
        (record { no_more = omega arith; least = λ v (k, r, less, at, solves). absurd (omega (arith, less)); reached = inl refl });
    tickets = subst (λ (ts : List ℕ). AreSame ts (range_with_len 0 (min 0 budget))) (sym (first_of tickets_of refl)) no_tickets;
    word = omega arith;
    hands =
        All-cons (HasHandFacts M.tree M.sheet side side) (fresh side (root ∷ [])) (replicate (hands - 1) (fresh side []))
        (fresh_facts (root ∷ []) (All-cons (IsLeft M.tree M.sheet side) root [] root_left (λ k d less. absurd (omega (arith, less)))))
        (All-replicate (HasHandFacts M.tree M.sheet side side) (hands - 1) (fresh side []) (fresh_facts [] (λ k d less. absurd (omega (arith, less)))));
    best = inl refl;
  }

-- one hand more
pub hands_more : (side k : ℕ) → 1 ≤ k → begun_hands side k ++ fresh side [] ∷ [] ≡ begun_hands side (k + 1)
hands_more side k some =
    let root : Task = record { path = []; bound = side } in
    let next : k - 1 + 1 ≡ k + 1 - 1 = omega (arith, some) in
    ap (λ (hs : List HandValue). fresh side (root ∷ []) ∷ hs) (replicate_more (k - 1) (fresh side []) ∙ ap (λ (n : ℕ). replicate n (fresh side [])) next)
