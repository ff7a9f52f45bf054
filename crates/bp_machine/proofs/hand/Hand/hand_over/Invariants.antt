use Rattle.std.proofs.Common.{◌≡◌, ◌++◌, length}
use Rattle.bp_machine.proofs.hand.Hand.hand_over.Given as goal

abbrev pub invariant-loop-task : goal.invariant-loop-task
invariant-loop-task l = record {
  records : l.records.items ≡ l.fn.records.items ++ l.fn.self.records;
  left : l.left.items ++ l.deque.items ≡ l.fn.left.items ++ l.fn.self.kept ++ l.fn.self.deque;
}

abbrev pub decreases-loop-task : goal.decreases-loop-task
decreases-loop-task l = length l.deque.items
