use Rattle.std.proofs.Common.{◌≡◌, ◌≤◌, length, take}
use Rattle.bp_warm.proofs.going.in_common.Given as goal

abbrev pub invariant-loop-k : goal.invariant-loop-k
invariant-loop-k l = record {
  in_steps : l.k ≤ length l.steps;
  in_path : l.k ≤ length l.path;
  same : take l.k l.steps ≡ take l.k l.path;
}
