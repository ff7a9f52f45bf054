use Rattle.std.proofs.Common.{◌≡◌, ℕ, arith, refl, subst}
use Rattle.bp_base.specs.declared.point.Axis.TheVariants.{Y}
use Rattle.bp_contour.specs.Table.{AreRows}
use Rattle.bp_contour.proofs.Tables.{cut_small, rows_more, table_done}
use Rattle.bp_contour.proofs.table.Cells.of.Goals as goal

pub add_row-requires-clause-row : goal.add_row-requires-clause-row
add_row-requires-clause-row c =
    cut_small c.args.regions.now Y c.args.rows.now c.requires.rows c.loop-row.row (omega arith)

pub loop-row-preserved : goal.loop-row-preserved
loop-row-preserved c =
    rows_more c.args.regions.now c.args.edge c.args.columns.now c.args.rows.now c.loop-row.row _ c.loop-row.bits.items c.add_row.new.bits.items c.loop-row.invariant refl c.in_ok-add_row.ensures

pub returns : goal.returns
returns c =
    let end : c.loop-row.row ≡ c.saturating_sub-height.result = omega (arith, c.loop-row-test.false, c.loop-row.auto.row-end) in
    table_done c.args.regions.now c.args.edge c.args.columns.now c.args.rows.now c.saturating_sub.result c.saturating_sub-height.result c.loop-row.bits.items _ (omega (arith, c.saturating_sub.ensures)) (omega (arith, c.saturating_sub-height.ensures)) (subst (λ (n : ℕ). AreRows c.args.regions.now c.args.edge c.args.columns.now c.args.rows.now n c.loop-row.bits.items) end c.loop-row.invariant) refl
