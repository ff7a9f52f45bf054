use Rattle.std.proofs.Common.{◌≡◌, ◌≤◌, length, take}
use Rattle.bp_warm.proofs.going.back_to.Given as goal

abbrev pub invariant-loop-warm : goal.invariant-loop-warm
invariant-loop-warm l = record {
  metric : l.warm.metric ≡ l.fn.warm.metric;
  some : l.steps ≤ length l.warm.path;
  same : take l.steps l.warm.path ≡ take l.steps l.fn.warm.path;
}

abbrev pub decreases-loop-warm : goal.decreases-loop-warm
decreases-loop-warm l = length l.warm.path
