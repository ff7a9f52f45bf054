use Rattle.std.proofs.Common.{ℕ, ◌≤◌}
use Rattle.bp_base.specs.Point.{point_at, gap}
use Rattle.bp_metric.specs.Distance.{leaf_dist}
use Rattle.bp_opening.specs.Sums.{next_leaf}
use Rattle.bp_opening.proofs.order.is_free.Given as goal

abbrev pub invariant-loop-before : goal.invariant-loop-before
invariant-loop-before l =
    (j : ℕ) → 1 ≤ j → j ≤ l.before → leaf_dist l.metric.tree j (next_leaf l.points) ≤ gap (point_at l.points j) l.point
