use Rattle.bp_chain.proofs.Lists.{PlacedTo}
use Rattle.bp_chain.proofs.claim.are_placed.Given as goal

abbrev pub invariant-loop-k : goal.invariant-loop-k
invariant-loop-k g l = PlacedTo (g.P.Steps.steps l.path) l.axis l.chain l.k
