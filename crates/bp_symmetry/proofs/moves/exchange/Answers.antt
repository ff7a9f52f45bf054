use Rattle.std.proofs.Common.{arith}
use Rattle.bp_symmetry.specs.Moves.{exchanged_point}
use Rattle.bp_symmetry.proofs.Maps.{map_next}
use Rattle.bp_symmetry.proofs.moves.exchange.Goals as goal

pub loop-point-preserved : goal.loop-point-preserved
loop-point-preserved c =
    map_next exchanged_point c.args.points.now c.loop-point.points c.loop-point.point-index (omega arith) (omega arith) c.loop-point.invariant
