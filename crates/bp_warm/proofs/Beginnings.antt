-- Beginnings of paths.
use Rattle.std.proofs.Common.{◌≡◌, ℕ, ◌+◌, ◌<◌, ◌≤◌, List, [], ◌∷◌, ◌++◌, length, get_or, take, drop, Some, sym, ◌∙◌, ap, subst, arith}
use Rattle.std.specs.List.{slice_get}
use Rattle.std.proofs.lemmas.List.{take_more, take-append-le, length-append}
use Rattle.std.proofs.Math.ListN.{take-append-drop}
use Rattle.bp_base.specs.declared.point.Axis.{Axis}
use Rattle.bp_base.specs.declared.point.Axis.TheVariants.{X, Y}
use Rattle.bp_base.specs.declared.path.Step.{Step}
use Rattle.bp_base.specs.declared.chain.Claim.{Claim}
use Rattle.bp_base.specs.declared.chain.Claim.TheVariants.{Walk, Cycle}
use Rattle.bp_metric.specs.Chains.{ArePlaced, HasCycle, IsCycle}
use Rattle.bp_metric.specs.Coordinates.{IsCycleShown, IsLoop}
use Rattle.bp_metric.proofs.Chains.{places_left, take_step}

-- one step more in common
pub common_more : (steps path : List Step) (k : ℕ) (s : Step) → take k steps ≡ take k path → k < length steps → get_or steps k s ≡ s → slice_get path k ≡ Some s → take (k + 1) steps ≡ take (k + 1) path
common_more steps path k s same less here there =
    take_more steps k s less ∙ (λ i. same i ++ here i ∷ []) ∙ sym (take_step path k s there)

-- without its last step a path begins as before
pub front_same : (old new : List Step) (s : Step) (m : ℕ) → old ≡ new ++ s ∷ [] → m < length old → (m ≤ length new) × (take m new ≡ take m old)
front_same old new s m is less =
    let long : length old ≡ length new + 1 = ap length is ∙ length-append new (s ∷ []) in
    (omega (arith, long), sym (ap (λ (q : List Step). take m q) is ∙ take-append-le m new (s ∷ []) (omega (arith, long))))

placed_more : (path more : List Step) (axis : Axis) (xs : List ℕ) → ArePlaced path axis xs → ArePlaced (path ++ more) axis xs
placed_more path more axis [] placed = tt
placed_more path more axis (x ∷ []) placed = tt
placed_more path more axis (x ∷ y ∷ xs) placed =
    (places_left path more axis x y placed.0, placed_more path more axis (y ∷ xs) placed.1)

-- a cycle of a path's beginning is one of the path
longer_cycle : (n : ℕ) (path : List Step) (k : ℕ) (axis : Axis) (xs : List ℕ) → IsCycle n (take k path) axis xs → IsCycle n path axis xs
longer_cycle n path k axis xs cycle = subst (λ (p : List Step). IsCycle n p axis xs) (take-append-drop k path) longer
  where
    longer : IsCycle n (take k path ++ drop k path) axis xs
    longer = record {
      chain = record {
        some = cycle.chain.some;
        are_leaves = cycle.chain.are_leaves;
        differ = cycle.chain.differ;
        placed = placed_more (take k path) (drop k path) axis xs cycle.chain.placed;
      };
      two = cycle.two;
      closed = places_left (take k path) (drop k path) axis _ _ cycle.closed;
    }

pub cycle_more : (n : ℕ) (path : List Step) (k : ℕ) → HasCycle n (take k path) → HasCycle n path
cycle_more n path k (axis, (xs, cycle)) = (axis, (xs, longer_cycle n path k axis xs cycle))

longer_loop : (n : ℕ) (path : List Step) (k : ℕ) (axis : Axis) (xs : List ℕ) → IsLoop n (take k path) axis xs → IsLoop n path axis xs
longer_loop n path k axis xs is = record { cycle = longer_cycle n path k axis xs is.cycle; first = is.first }

-- what is shown for a beginning is a loop of the path
pub shown_loop : (n : ℕ) (path : List Step) (axis : Axis) (xs : List ℕ) (claim : Claim) → (k : ℕ) × IsCycleShown n (take k path) claim → claim ≡ Cycle axis xs → IsLoop n path axis xs
shown_loop n path axis xs claim (k, shown) is = go axis (subst (IsCycleShown n (take k path)) is shown)
  where
    go : (axis : Axis) → IsCycleShown n (take k path) (Cycle axis xs) → IsLoop n path axis xs
    go X shown = longer_loop n path k X xs shown
    go Y shown = longer_loop n path k Y xs shown.0

-- a cycle that is shown is one
pub shown_cycle : (n : ℕ) (path : List Step) (claim : Claim) → IsCycleShown n path claim → HasCycle n path
shown_cycle n path (Walk axis chain) shown = absurd shown
shown_cycle n path (Cycle X chain) shown = (X, (chain, shown.cycle))
shown_cycle n path (Cycle Y chain) shown = (Y, (chain, shown.0.cycle))
