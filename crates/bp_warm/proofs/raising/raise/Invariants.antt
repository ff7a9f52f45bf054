use Rattle.bp_warm.proofs.Settling.{IsSettling, left_over}
use Rattle.bp_warm.proofs.raising.raise.Given as goal

abbrev pub invariant-loop-at : goal.invariant-loop-at
invariant-loop-at l = IsSettling l.metric.tree l._steps l._axis l.old l.first l.second l.lows l.work l.at

abbrev pub decreases-loop-at : goal.decreases-loop-at
decreases-loop-at l = left_over l.lows l.at
