use Rattle.std.proofs.Common.{ℕ, ◌<◌, ◌≤◌}
use Rattle.bp_metric.specs.Distance.{leaf_dist}
use Rattle.bp_metric.specs.Floor.{floor_at}
use Rattle.bp_floor.specs.Best.{IsBetter, IsFound}
use Rattle.bp_floor.proofs.best.best_with.Given as goal

abbrev pub invariant-loop-i : goal.invariant-loop-i
invariant-loop-i l = record {
  found : IsFound l.metric.tree l.metric.sheet l.best;
  better : IsBetter l.best l.fn.best;
  best : (k : ℕ) → 1 ≤ k → k < l.i → IsBetter l.best (floor_at l.metric.tree l.metric.sheet (leaf_dist l.metric.tree k l.j));
}
