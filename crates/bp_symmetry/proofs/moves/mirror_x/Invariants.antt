use Rattle.std.proofs.Common.{◌≡◌, ◌++◌, map, take, drop}
use Rattle.bp_symmetry.specs.Moves.{mirrored_x_point}
use Rattle.bp_symmetry.proofs.moves.mirror_x.Given as goal

abbrev pub invariant-loop-point : goal.invariant-loop-point
invariant-loop-point l = l.points ≡ map (mirrored_x_point l.width) (take l.point-index l.initial.points) ++ drop l.point-index l.initial.points
