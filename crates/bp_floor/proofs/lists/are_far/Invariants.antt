use Rattle.bp_floor.proofs.RisingLeaves.{FarTo}
use Rattle.bp_floor.proofs.lists.are_far.Given as goal

abbrev pub invariant-loop-at : goal.invariant-loop-at
invariant-loop-at l = FarTo l.metric.tree l.m l.leaves l.at
