use Rattle.bp_steady.specs.Searching.{IsBest}
use Rattle.bp_steady.proofs.pairs.farthest.Given as goal

abbrev pub invariant-loop-i : goal.invariant-loop-i
invariant-loop-i l = IsBest l.metric.tree l.row l.i 0 l.best
