use Rattle.std.proofs.Common.{◌≡◌, length}
use Rattle.bp_check.specs.Stack.{IsStack, closed}
use Rattle.bp_check.proofs.stack.Stack.close.Given as goal

abbrev pub invariant-loop-self : goal.invariant-loop-self
invariant-loop-self l = record {
  kept : IsStack l.metric.tree l.metric.sheet l.self;
  count : l.self.count ≡ l.initial.self.count;
  same : closed l.metric.tree l.metric.sheet l.depth l.self ≡ closed l.metric.tree l.metric.sheet l.depth l.initial.self;
}

abbrev pub decreases-loop-self : goal.decreases-loop-self
decreases-loop-self l = length l.self.splits
