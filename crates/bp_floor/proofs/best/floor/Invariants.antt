use Rattle.std.proofs.Common.{ℕ, ◌<◌, ◌≤◌}
use Rattle.bp_metric.specs.Distance.{leaf_dist}
use Rattle.bp_metric.specs.Floor.{floor_at}
use Rattle.bp_floor.specs.Best.{IsBetter, IsFound}
use Rattle.bp_floor.proofs.best.floor.Given as goal

abbrev pub invariant-loop-j : goal.invariant-loop-j
invariant-loop-j l = record {
  found : IsFound l.metric.tree l.metric.sheet l.best;
  best : (i k : ℕ) → 1 ≤ i → i < k → k < l.j → IsBetter l.best (floor_at l.metric.tree l.metric.sheet (leaf_dist l.metric.tree i k));
}
