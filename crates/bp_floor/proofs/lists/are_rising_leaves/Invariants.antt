use Rattle.bp_floor.proofs.RisingLeaves.{RisesTo}
use Rattle.bp_floor.proofs.lists.are_rising_leaves.Given as goal

abbrev pub invariant-loop-leaf : goal.invariant-loop-leaf
invariant-loop-leaf l = RisesTo l.metric.tree l.leaves l.leaf-index l.last
