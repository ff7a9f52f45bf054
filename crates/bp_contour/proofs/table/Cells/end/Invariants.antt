use Rattle.bp_contour.specs.Table.{Holds}
use Rattle.bp_contour.specs.Ways.{Reaches}
use Rattle.bp_contour.proofs.Ahead.{room_ahead}
use Rattle.bp_contour.proofs.table.Cells.end.Given as goal

abbrev pub invariant-loop-way : goal.invariant-loop-way
invariant-loop-way l = Reaches (Holds l.self) l.way l.fn.at l.end

abbrev pub decreases-loop-way : goal.decreases-loop-way
decreases-loop-way l = room_ahead l.self l.way l.end
