use Rattle.bp_branch.specs.Nearest.{IsBest}
use Rattle.bp_branch.proofs.pairs.farthest.Given as goal

abbrev pub invariant-loop-i : goal.invariant-loop-i
invariant-loop-i l = IsBest l.metric.tree l.xs l.ys l.i 0 l.best
