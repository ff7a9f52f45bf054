use Rattle.bp_warm.proofs.Pulling.{IsGoing}
use Rattle.bp_warm.proofs.raising.pull_all.Given as goal

abbrev pub invariant-loop-k : goal.invariant-loop-k
invariant-loop-k l = IsGoing l.metric.tree l._steps l._axis l.old l.first l._second l.at l.row l.fn.lows l.fn.work l.lows l.work l.k
