use Rattle.bp_walks.proofs.Trails.{IsTrail}
use Rattle.bp_walks.proofs.cycles.cycle_from.Given as goal

abbrev pub invariant-loop-p : goal.invariant-loop-p
invariant-loop-p l = IsTrail l.n l.path l.axis l.open l.trail l.at

abbrev pub decreases-loop-p : goal.decreases-loop-p
decreases-loop-p l = l.at
