use Rattle.std.proofs.Common.{◌≡◌, ◌≤◌, length, take, vec_capacity}
use Rattle.bp_branch.specs.Branches.{points_of}
use Rattle.bp_branch.proofs.placing.low_points.Given as goal

abbrev pub invariant-loop-k : goal.invariant-loop-k
invariant-loop-k l = record {
  room : length l.xs ≤ vec_capacity l.points;
  count : length l.points.items ≡ l.k;
  same : length l.xs ≡ length l.ys;
  done : l.points.items ≡ points_of (take l.k l.xs) (take l.k l.ys);
}
