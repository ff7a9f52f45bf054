use Rattle.bp_contour.specs.Listed.{AreRunsUpTo}
use Rattle.bp_contour.specs.Table.{Holds}
use Rattle.bp_contour.proofs.runs.runs_of.Given as goal

abbrev pub invariant-loop-y : goal.invariant-loop-y
invariant-loop-y l = AreRunsUpTo (Holds l.cells) l.y 0 0 l.runs.items
