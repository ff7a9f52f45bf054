use Rattle.std.proofs.Common.{◌≡◌, ◌++◌, map, take, drop}
use Rattle.bp_symmetry.specs.Moves.{mirrored_y_point}
use Rattle.bp_symmetry.proofs.moves.mirror_y.Given as goal

abbrev pub invariant-loop-point : goal.invariant-loop-point
invariant-loop-point l = l.points ≡ map (mirrored_y_point l.side) (take l.point-index l.initial.points) ++ drop l.point-index l.initial.points
