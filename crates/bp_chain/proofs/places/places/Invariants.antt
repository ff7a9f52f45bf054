use Rattle.std.proofs.Common.{take}
use Rattle.bp_metric.specs.Chains.{Places}
use Rattle.bp_chain.proofs.places.places.Given as goal

abbrev pub invariant-loop-k : goal.invariant-loop-k
invariant-loop-k g l = Places (take l.k (g.P.Steps.steps l.path)) l.axis l.a l.b → ⊥
