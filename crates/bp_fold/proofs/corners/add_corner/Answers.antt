use Rattle.std.proofs.lemmas.Bool.{false≢true}
use Rattle.std.proofs.Common.{sym, ◌∙◌}
use Rattle.bp_fold.proofs.CornerLists.{corner_added, corner_skipped}
use Rattle.bp_fold.proofs.corners.add_corner.Goals as goal

pub returns-in_ok-push : goal.returns-in_ok-push
returns-in_ok-push c =
    let M = c.args.mesh.now in
    corner_added M.regions.now M.xs.now M.ys.now c.args.row c.args.column c.args.corners.now.items c.push.new.self.items c.requires.column c.requires.row c.in_ok-push.ensures.items (c.is_vertex.ensures.0 c.if-is_vertex.true) c.requires.before

pub returns-else-is_vertex : goal.returns-else-is_vertex
returns-else-is_vertex c =
    let M = c.args.mesh.now in
    corner_skipped M.regions.now M.xs.now M.ys.now c.args.row c.args.column c.args.corners.now.items (λ v. false≢true (sym c.if-is_vertex.false ∙ c.is_vertex.ensures.1 v)) c.requires.before
