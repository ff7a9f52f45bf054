use Rattle.bp_branch.specs.Nearest.{IsBest}
use Rattle.bp_branch.proofs.pairs.best_with.Given as goal

abbrev pub invariant-loop-j : goal.invariant-loop-j
invariant-loop-j l = IsBest l.metric.tree l.xs l.ys l.i l.j l.best
