use Rattle.std.proofs.Common.{◌≡◌, map, take}
use Rattle.bp_fold.specs.Numbering.{point_of}
use Rattle.bp_fold.proofs.corners.points_of.Given as goal

abbrev pub invariant-loop-corner : goal.invariant-loop-corner
invariant-loop-corner l = l.points.items ≡ map (point_of l.mesh.xs.now l.mesh.ys.now) (take l.corner-index l.corners)
