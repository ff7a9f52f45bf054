use Rattle.bp_contour.specs.Listed.{AreRunsUpTo}
use Rattle.bp_contour.specs.Table.{Holds}
use Rattle.bp_contour.proofs.runs.add_line.Given as goal

abbrev pub invariant-loop-x : goal.invariant-loop-x
invariant-loop-x l = AreRunsUpTo (Holds l.cells) l.y l.x 0 l.runs.items
