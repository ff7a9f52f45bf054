use Rattle.bp_warm.proofs.Bests.{IsBest}
use Rattle.bp_warm.proofs.showing.shown_before.Given as goal

abbrev pub invariant-loop-k : goal.invariant-loop-k
invariant-loop-k l = IsBest l.metric.tree l.row l.leaf l.befores l.best l.k
