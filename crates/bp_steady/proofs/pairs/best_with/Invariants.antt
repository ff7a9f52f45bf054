use Rattle.bp_steady.specs.Searching.{IsBest}
use Rattle.bp_steady.proofs.pairs.best_with.Given as goal

abbrev pub invariant-loop-j : goal.invariant-loop-j
invariant-loop-j l = IsBest l.metric.tree l.row l.i l.j l.best
