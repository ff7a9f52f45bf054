use Rattle.bp_fold.specs.Meshes.{crossing}
use Rattle.bp_fold.proofs.Crossings.{vertex_answer}
use Rattle.bp_fold.proofs.mesh.Mesh.is_vertex.Goals as goal

pub returns : goal.returns
returns c =
    let M = c.args.self.now in
    vertex_answer M.regions.now (crossing M.xs.now M.ys.now c.args.column c.args.row) c.has_left-left.result c.has_right-right.result c.has_lower-lower.result c.has_upper-upper.result c.is_corner.result c.is_corner.ensures c.has_left-left.ensures c.has_right-right.ensures c.has_lower-lower.ensures c.has_upper-upper.ensures
