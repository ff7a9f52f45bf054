use Rattle.bp_walks.proofs.Trails.{IsShownTrail}
use Rattle.bp_walks.proofs.shown.shown_chain.Given as goal

abbrev pub invariant-loop-before : goal.invariant-loop-before
invariant-loop-before l = IsShownTrail l.metric.tree l.path l.axis l.last l.trail l.at

abbrev pub decreases-loop-before : goal.decreases-loop-before
decreases-loop-before l = l.at
