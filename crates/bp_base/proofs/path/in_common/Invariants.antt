use Rattle.std.proofs.Common.{◌≡◌, ◌≤◌, length, take}
use Rattle.bp_base.proofs.path.in_common.Given as goal

abbrev pub invariant-loop-k : goal.invariant-loop-k
invariant-loop-k l = record {
  in_first : l.k ≤ length l.first;
  in_second : l.k ≤ length l.second;
  same : take l.k l.first ≡ take l.k l.second;
}
