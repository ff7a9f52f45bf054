use Rattle.std.proofs.Common.{take}
use Rattle.bp_metric.specs.Chains.{Places}
use Rattle.bp_walks.proofs.orders.places.Given as goal

abbrev pub invariant-loop-k : goal.invariant-loop-k
invariant-loop-k l = Places (take l.k l.path) l.axis l.a l.b → ⊥
