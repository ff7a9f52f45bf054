use Rattle.std.proofs.Common.{arith}
use Rattle.bp_fold.proofs.CornerLists.{row_done}
use Rattle.bp_fold.proofs.corners.add_row.Goals as goal

pub returns : goal.returns
returns c =
    let M = c.args.mesh.now in
    row_done M.regions.now M.xs.now M.ys.now c.args.level c.loop-column.corners.items c.loop-column.column (omega (arith, c.loop-column-test.false)) c.loop-column.invariant
