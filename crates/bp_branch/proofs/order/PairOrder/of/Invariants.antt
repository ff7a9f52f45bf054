use Rattle.bp_branch.specs.Orders.{AreOrdered}
use Rattle.bp_branch.proofs.order.PairOrder.of.Given as goal

abbrev pub invariant-loop-i : goal.invariant-loop-i
invariant-loop-i l = AreOrdered l.metric.tree l.i 0 l.pairs.items
