use Rattle.bp_fold.specs.Numbering.{AreCornersBefore}
use Rattle.bp_fold.proofs.corners.add_row.Given as goal

abbrev pub invariant-loop-column : goal.invariant-loop-column
invariant-loop-column l = AreCornersBefore l.mesh.regions.now l.mesh.xs.now l.mesh.ys.now l.level l.column l.corners.items
