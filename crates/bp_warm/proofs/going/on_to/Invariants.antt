use Rattle.std.proofs.Common.{◌≡◌, ◌≤◌, length, take}
use Rattle.bp_warm.proofs.going.on_to.Given as goal

abbrev pub invariant-loop-k : goal.invariant-loop-k
invariant-loop-k l = record {
  metric : l.warm.metric ≡ l.fn.warm.metric;
  within : l.k ≤ length l.path;
  path : l.warm.path ≡ take l.k l.path;
}
