use Rattle.bp_contour.specs.Table.{AreRows}
use Rattle.bp_contour.proofs.table.Cells.of.Given as goal

abbrev pub invariant-loop-row : goal.invariant-loop-row
invariant-loop-row l = AreRows l.regions l.edge l.columns l.rows l.row l.bits.items
