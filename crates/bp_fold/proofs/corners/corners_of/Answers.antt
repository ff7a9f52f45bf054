use Rattle.std.proofs.Common.{length, arith}
use Rattle.bp_fold.proofs.CornerLists.{all_rows}
use Rattle.bp_fold.proofs.corners.corners_of.Goals as goal

pub returns : goal.returns
returns c =
    let M = c.args.mesh.now in
    all_rows M.regions.now M.xs.now M.ys.now c.loop-level.level (length M.ys.now) c.loop-level.corners.items (omega (arith, c.loop-level-test.false, c.loop-level.auto.level-end)) c.loop-level.invariant
