use Rattle.bp_fold.specs.Numbering.{AreEdgesBefore, points_of}
use Rattle.bp_fold.proofs.runs.edges_of.Given as goal

abbrev pub invariant-loop-from : goal.invariant-loop-from
invariant-loop-from l = AreEdgesBefore l.mesh.regions.now (points_of l.mesh.xs.now l.mesh.ys.now l.corners) l.from 0 l.edges.items
