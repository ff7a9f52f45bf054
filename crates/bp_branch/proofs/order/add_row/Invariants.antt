use Rattle.bp_branch.specs.Orders.{AreOrdered}
use Rattle.bp_branch.proofs.order.add_row.Given as goal

abbrev pub invariant-loop-j : goal.invariant-loop-j
invariant-loop-j l = AreOrdered l.metric.tree l.i l.j l.pairs.items
