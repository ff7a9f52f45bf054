use Rattle.std.proofs.Common.{ℕ, ◌<◌, ◌≤◌}
use Rattle.bp_base.specs.Point.{point_at}
use Rattle.bp_metric.specs.Valid.{Lies}
use Rattle.bp_pairs.proofs.valid.first_outside.Given as goal

abbrev pub invariant-loop-leaf : goal.invariant-loop-leaf
invariant-loop-leaf l = (k : ℕ) → 1 ≤ k → k < l.leaf → Lies l.metric.sheet 1 l.side (point_at l.points k)
