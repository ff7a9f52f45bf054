use Rattle.bp_chain.proofs.Lists.{LeavesTo}
use Rattle.bp_chain.proofs.claim.are_leaves.Given as goal

abbrev pub invariant-loop-k : goal.invariant-loop-k
invariant-loop-k l = LeavesTo l.n l.chain l.k
