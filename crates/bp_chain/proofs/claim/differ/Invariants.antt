use Rattle.bp_chain.proofs.Lists.{DifferTo}
use Rattle.bp_chain.proofs.claim.differ.Given as goal

abbrev pub invariant-loop-k : goal.invariant-loop-k
invariant-loop-k l = DifferTo l.chain l.k
