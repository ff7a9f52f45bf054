use Rattle.std.proofs.Common.{◌++◌, ◌+◌, List, arith, sym, subst, ap, ◌∙◌}
use Rattle.std.proofs.lemmas.List.{length-map}
use Rattle.bp_fold.specs.declared.drawing.Edge.{Edge}
use Rattle.bp_fold.specs.Numbering.{AreEdgesBefore, edge_to, point_of, points_of}
use Rattle.bp_fold.proofs.Joins.{fan}
use Rattle.bp_fold.proofs.Numbered.{are_vertices, on_ok}
use Rattle.bp_fold.proofs.runs.add_edges.Goals as goal

pub returns : goal.returns
returns c =
    let M = c.args.mesh.now in
    let V = points_of M.xs.now M.ys.now c.args.corners.now in
    let old = c.args.edges.now.items in
    let whole = fan M.regions.now V (are_vertices M.regions.now M.xs.now M.ys.now M.owners.items c.requires.mesh c.args.corners.now c.requires.corners) c.args.from (omega (arith, c.requires.from, length-map c.args.corners.now (point_of M.xs.now M.ys.now))) c.right_of-right.result c.above-upper.result old c.right_of-right.ensures c.above-upper.ensures c.requires.before in
    on_ok c.add_edge-2.result _ (AreEdgesBefore M.regions.now V (c.args.from + 1) 0 c.add_edge-2.new.edges.items)
    (λ is. subst (λ (E : List Edge). AreEdgesBefore M.regions.now V (c.args.from + 1) 0 E) (sym (is ∙ ap (λ (E : List Edge). E ++ edge_to c.args.from c.above-upper.result) c.in_ok-add_edge.ensures)) whole) c.add_edge-2.ensures
