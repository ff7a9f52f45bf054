-- The definitions on the tree c p 3/c q 4/: a worker takes the root, splits it, and pushes its one child; and what isn't so.
use Rattle.std.proofs.Common.{◌≡◌, ℕ, zero, suc, List, [], ◌∷◌, length, All, None, Some, refl, sym, ap, arith}
use Rattle.bp_base.specs.declared.path.Choice.TheVariants.{Left}
use Rattle.bp_base.specs.declared.point.Sheet.TheVariants.{Square}
use Rattle.bp_base.specs.declared.record.Task.{Task}
use Rattle.bp_base.specs.Tree.{leaf_count}
use Rattle.bp_metric.specs.Chains.{HasCycle}
use Rattle.bp_metric.specs.Choices.{allowed}
use Rattle.bp_metric.specs.Refutation.{extended}
use Rattle.bp_metric.proofs.TwoFlaps.{two, points}
use Rattle.bp_core.proofs.Worked.{inner, next, pair, root as split}
use Rattle.bp_incumbent.specs.Tickets.{ticket}
use Rattle.bp_workers.specs.Worked.{HasBound, HasKind, IsBest, IsWorked, below, lesser}
use Rattle.bp_workers.specs.Gathered.{root}

abbrev child : Task
child = record { path = extended [] pair Left; bound = 7 }

no_cycle : (n : ℕ) → HasCycle n [] → ⊥
no_cycle n (axis, (leaves, cycle)) = cycle.closed

judged : HasKind two Square split
judged = (record { no_cycle = no_cycle (leaf_count two); side = inner.forced; forced = inner.is_forced; below = inner.below }, next)

has_bound : HasBound (ticket 0 7 ∷ []) split
has_bound = (0, ticket 0 7, omega arith, refl, (refl, refl))

one_split : IsWorked two Square 5 (root 7 ∷ []) (child ∷ []) (split ∷ []) [] (ticket 0 7 ∷ ticket 5 7 ∷ []) []
unfolding allowed
one_split = record {
  tasks = λ h. refl;
  judged = kinds;
  tickets_are = λ h. refl;
  bounds = bounds;
  offers_are = (None, [], (λ side forces. forces.solved.no_next pair next.pair next.near), refl, refl);
}
  where
    kinds : All (HasKind two Square) (split ∷ [])
    kinds zero d less = judged
    kinds (suc k) d less = absurd (omega (arith, less))

    bounds : All (HasBound (ticket 0 7 ∷ ticket 5 7 ∷ [])) (split ∷ [])
    bounds zero d less = (0, ticket 0 7, omega arith, refl, (refl, refl))
    bounds (suc k) d less = absurd (omega (arith, less))

-- the child is neither pushed nor kept
child_lost : IsWorked two Square 5 (root 7 ∷ []) [] (split ∷ []) [] (ticket 0 7 ∷ []) [] → ⊥
unfolding allowed
child_lost w = omega (arith, w.tasks (λ t. 1))

-- a record without a ticket
no_ticket : IsWorked two Square 5 (root 7 ∷ []) (child ∷ []) (split ∷ []) [] [] [] → ⊥
no_ticket w = omega (arith, w.tickets_are (λ n. 1))

-- the record's bound is above the side that was loaded before its ticket
stale_bound : HasBound (ticket 0 6 ∷ []) split → ⊥
stale_bound (zero, t, less, at, (number, bound)) =
    let same : t.side ≡ 6 = λ i. (sym at i).side in omega (arith, bound, same)
stale_bound (suc k, t, less, at, is) = absurd (omega (arith, less))

-- the tickets below a limit of 5, and none at the limit
some_below : below 5 (ticket 0 9 ∷ ticket 3 9 ∷ ticket 5 8 ∷ []) ≡ 0 ∷ 3 ∷ []
some_below = refl

-- an offer without a placement
no_placement : IsBest two Square None (6 ∷ []) → ⊥
no_placement is = omega (arith, ap (λ (sides : List ℕ). length sides) is)

-- the lesser of two placements
of_two : lesser (Some (record { side = 8; points = points })) (Some (record { side = 7; points = points })) ≡ Some (record { side = 7; points = points })
of_two = refl
