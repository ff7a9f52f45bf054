use Rattle.std.proofs.Common.{sum}
use Rattle.bp_walks.proofs.Done.{AreDone}
use Rattle.bp_walks.proofs.lows.lows_on.Given as goal

abbrev pub invariant-loop-leaf : goal.invariant-loop-leaf
invariant-loop-leaf l = AreDone l.metric.tree l.path l.axis l.lows l.open

abbrev pub decreases-loop-leaf : goal.decreases-loop-leaf
decreases-loop-leaf l = sum l.open
