use Rattle.std.proofs.Common.{◌≡◌, ◌++◌, map, take, drop}
use Rattle.bp_symmetry.specs.Moves.{exchanged_point}
use Rattle.bp_symmetry.proofs.moves.exchange.Given as goal

abbrev pub invariant-loop-point : goal.invariant-loop-point
invariant-loop-point l = l.points ≡ map exchanged_point (take l.point-index l.initial.points) ++ drop l.point-index l.initial.points
