use Rattle.bp_contour.specs.Table.{AddsRow}
use Rattle.bp_contour.proofs.table.add_row.Given as goal

abbrev pub invariant-loop-column : goal.invariant-loop-column
invariant-loop-column l = AddsRow l.regions l.edge l.columns l.y l.column l.initial.bits.items l.bits.items
