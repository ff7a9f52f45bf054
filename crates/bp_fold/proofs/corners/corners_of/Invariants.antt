use Rattle.bp_fold.specs.Numbering.{AreCornersBefore}
use Rattle.bp_fold.proofs.corners.corners_of.Given as goal

abbrev pub invariant-loop-level : goal.invariant-loop-level
invariant-loop-level l = AreCornersBefore l.mesh.regions.now l.mesh.xs.now l.mesh.ys.now l.level 0 l.corners.items
