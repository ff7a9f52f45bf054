use Rattle.std.proofs.Common.{arith}
use Rattle.bp_base.specs.declared.point.Axis.TheVariants.{X}
use Rattle.bp_contour.proofs.Tables.{cut_small, row_more}
use Rattle.bp_contour.proofs.table.add_row.Goals as goal

pub reach-requires-clause-cell : goal.reach-requires-clause-cell
reach-requires-clause-cell c =
    (cut_small c.args.regions.now X c.args.columns.now c.requires.columns c.loop-column.column (omega arith), c.requires.row)

pub loop-column-preserved : goal.loop-column-preserved
loop-column-preserved c =
    row_more c.args.regions.now c.args.edge c.args.columns.now c.args.y c.loop-column.column c.args.bits.now.items c.loop-column.bits.items c.push.new.self.items c.reach.result c.loop-column.invariant c.reach.ensures.reach c.in_ok-push.ensures.items
