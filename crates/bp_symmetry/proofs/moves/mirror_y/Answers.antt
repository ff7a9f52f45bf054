use Rattle.std.proofs.Common.{arith}
use Rattle.bp_symmetry.specs.Moves.{mirrored_y_point}
use Rattle.bp_symmetry.proofs.Maps.{map_next}
use Rattle.bp_symmetry.proofs.moves.mirror_y.Goals as goal

pub loop-point-preserved : goal.loop-point-preserved
loop-point-preserved c =
    map_next (mirrored_y_point c.args.side) c.args.points.now c.loop-point.points c.loop-point.point-index (omega arith) (omega arith) c.loop-point.invariant
