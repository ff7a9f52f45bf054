use Rattle.bp_walks.proofs.Trails.{IsShownTrail}
use Rattle.bp_warm.proofs.showing.shown_chain.Given as goal

abbrev pub invariant-loop-shown : goal.invariant-loop-shown
invariant-loop-shown l = IsShownTrail l.metric.tree l._steps l.fn._axis l.last l.trail l.at

abbrev pub decreases-loop-shown : goal.decreases-loop-shown
decreases-loop-shown l = l.at
