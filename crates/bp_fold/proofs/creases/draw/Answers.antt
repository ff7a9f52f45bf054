use Rattle.std.proofs.Common.{◌∙◌, ap}
use Rattle.bp_fold.specs.Numbering.{points_of}
use Rattle.bp_fold.proofs.Whole.{corners_small, drawn, edges_small}
use Rattle.bp_fold.proofs.creases.draw.Goals as goal

pub points_of-requires : goal.points_of-requires
points_of-requires c =
    let M = c.in_ok-mesh.mesh in
    record {
      corners = corners_small M.regions.now M.xs.now M.ys.now M.owners.items c.in_ok-mesh.ensures.mesh c.in_ok-corners.corners.items c.in_ok-corners.ensures c.deref.result.now c.deref.ensures.value;
    }

pub letters_of-requires : goal.letters_of-requires
letters_of-requires c =
    let M = c.in_ok-mesh.mesh in
    record {
      edges = edges_small M.regions.now M.xs.now M.ys.now M.owners.items c.in_ok-mesh.ensures.mesh c.in_ok-corners.corners.items c.in_ok-corners.ensures c.deref-2.result.now c.in_ok-edges.edges.items c.deref-4.result.now c.deref-3.result.now c.deref-2.ensures.value c.deref-4.ensures.value (c.deref-3.ensures.value ∙ c.in_ok-vertices.ensures ∙ ap (points_of M.xs.now M.ys.now) c.deref.ensures.value) c.in_ok-edges.ensures;
    }

pub returns : goal.returns
returns c =
    let M = c.in_ok-mesh.mesh in
    drawn M.regions.now M.xs.now M.ys.now M.owners.items c.in_ok-mesh.ensures.mesh c.in_ok-corners.corners.items c.in_ok-corners.ensures c.args.regions.now c.deref-2.result.now c.deref.result.now c.in_ok-vertices.vertices.items c.deref-3.result.now c.from_vec.result c.in_ok-edges.edges.items c.deref-4.result.now c.from_vec-2.result c.in_ok-letters.letters.items c.from_vec-3.result c.side.result c.in_ok-mesh.ensures.regions c.deref.ensures.value c.deref-2.ensures.value c.in_ok-vertices.ensures c.in_ok-edges.ensures c.deref-3.ensures.value c.deref-4.ensures.value c.side.ensures c.in_ok-letters.ensures c.from_vec.ensures c.from_vec-2.ensures c.from_vec-3.ensures
