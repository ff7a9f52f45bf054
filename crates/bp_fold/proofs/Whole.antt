-- The three lists together are the drawing; and there is only one.
use Rattle.std.proofs.Common.{◌≡◌, ℕ, ◌<◌, List, Option, length, get_or, map, refl, sym, ◌∙◌, ap, subst, arith, inl}
use Rattle.std.proofs.lemmas.List.{length-map}
use Rattle.std.proofs.lemmas.List.Elements.{Contains-get_or}
use Rattle.bp_base.specs.declared.point.Point.{Point}
use Rattle.bp_regions.specs.Regions.{RegionsValue}
use Rattle.bp_fold.specs.declared.drawing.Drawing.{Drawing}
use Rattle.bp_fold.specs.declared.drawing.Edge.{Edge}
use Rattle.bp_fold.specs.declared.drawing.Letter.{Letter}
use Rattle.bp_fold.specs.declared.mesh.Corner.{Corner}
use Rattle.bp_fold.specs.Drawings.{IsDrawing}
use Rattle.bp_fold.specs.Edges.{GoesBefore, IsEdgeOf, letter_of}
use Rattle.bp_fold.specs.Meshes.{IsMesh}
use Rattle.bp_fold.specs.Numbering.{AreCorners, AreEdgesBefore, point_of, points_of}
use Rattle.bp_regions.specs.Contours.{ComesBefore}
use Rattle.bp_fold.proofs.Joins.{points_asym}
use Rattle.bp_fold.proofs.Listing.{asymmetric, one_list}
use Rattle.bp_fold.proofs.Numbered.{are_vertices, corner_is}

module _ (R : RegionsValue) (xs ys : List ℕ) (owners : List (Option ℕ)) (mesh : IsMesh R xs ys owners) (C : List Corner) (h : AreCorners R xs ys C) where
  pub corners_small : (D : List Corner) → D ≡ C → (k : ℕ) (d : Corner) → k < length D → ((get_or D k d).column < length xs) × ((get_or D k d).row < length ys)
  corners_small D same k d less =
      let in_k : k < length C = omega (arith, less, ap length same) in
      let is = corner_is R xs ys owners mesh C h k d in_k in
      rw same (is.0, is.1)

  pub edges_small : (B : List Corner) (E G : List Edge) (V : List Point) → B ≡ C → G ≡ E → V ≡ points_of xs ys C → AreEdgesBefore R (points_of xs ys B) (length B) 0 E → (k : ℕ) (d : Edge) → k < length G → ((get_or G k d).from < length V) × ((get_or G k d).to < length V)
  edges_small B E G V same_b same_g same_v edges k d less =
      let in_k : k < length E = omega (arith, less, ap length same_g) in
      let is = ((edges.each (get_or E k d)).0 (Contains-get_or E k d in_k)).0 in
      let long : length V ≡ length (points_of xs ys B) = ap length (same_v ∙ ap (points_of xs ys) (sym same_b)) in
      rw same_g (omega (arith, is.0, is.1, long), omega (arith, is.1, long))

  is_drawing : (E : List Edge) → AreEdgesBefore R (points_of xs ys C) (length C) 0 E → IsDrawing R (record { vertices = points_of xs ys C; edges = E; letters = map (letter_of R.side (points_of xs ys C)) E })
  is_drawing E edges =
      let V = are_vertices R xs ys owners mesh C h in
      record {
        vertices_rise = V.rising;
        vertices = V.each;
        edges_rise = edges.rising;
        edges = λ e. (
          λ here. ((edges.each e).0 here).0,
          λ is. (edges.each e).1 (is, inl (omega (arith, is.0, is.1, length-map C (point_of xs ys)))),
        );
        letters = refl;
      }

  pub drawn : (Q : RegionsValue) (B A : List Corner) (V V2 v : List Point) (E G e : List Edge) (L l : List Letter) (side : ℕ) → R ≡ Q → A ≡ C → B ≡ C → V ≡ points_of xs ys A → AreEdgesBefore R (points_of xs ys B) (length B) 0 E → V2 ≡ V → G ≡ E → side ≡ R.side → L ≡ map (letter_of side V2) G → v ≡ V → e ≡ E → l ≡ L → IsDrawing Q (record { vertices = v; edges = e; letters = l })
  drawn Q B A V V2 v E G e L l side same_r same_a same_b is_v edges is_v2 is_g is_side is_l to_v to_e to_l =
      let edges_c : AreEdgesBefore R (points_of xs ys C) (length C) 0 E = subst (λ (D : List Corner). AreEdgesBefore R (points_of xs ys D) (length D) 0 E) same_b edges in
      let v_all : v ≡ points_of xs ys C = to_v ∙ is_v ∙ ap (points_of xs ys) same_a in
      let v2_all : V2 ≡ points_of xs ys C = is_v2 ∙ is_v ∙ ap (points_of xs ys) same_a in
      rw (to_l, is_l, is_side, v2_all, is_g, v_all, to_e, sym same_r) (is_drawing E edges_c)

edges_asym : (e f : Edge) → GoesBefore e f → GoesBefore f e → ⊥
edges_asym e f = asymmetric e.from e.to f.from f.to

pub one_drawing : (R : RegionsValue) (D F : Drawing) → IsDrawing R D → IsDrawing R F → D ≡ F
one_drawing R D F one other =
    let vertices : D.vertices ≡ F.vertices =
    one_list ComesBefore points_asym D.vertices F.vertices one.vertices_rise other.vertices_rise (λ p here. (other.vertices p).1 ((one.vertices p).0 here)) (λ p here. (one.vertices p).1 ((other.vertices p).0 here)) in
    let edges : D.edges ≡ F.edges =
    one_list GoesBefore edges_asym D.edges F.edges one.edges_rise other.edges_rise
    (λ e here. (other.edges e).1 (subst (λ (V : List Point). IsEdgeOf R V e) vertices ((one.edges e).0 here)))
    (λ e here. (one.edges e).1 (subst (λ (V : List Point). IsEdgeOf R V e) (sym vertices) ((other.edges e).0 here))) in
    let letters : D.letters ≡ F.letters = one.letters ∙ ap (λ (V : List Point). map (letter_of R.side V) D.edges) vertices ∙ ap (λ (E : List Edge). map (letter_of R.side F.vertices) E) edges ∙ sym other.letters in
    ap (λ (V : List Point). let G : Drawing = record { vertices = V; edges = D.edges; letters = D.letters } in G) vertices
    ∙ ap (λ (E : List Edge). let G : Drawing = record { vertices = F.vertices; edges = E; letters = D.letters } in G) edges
    ∙ ap (λ (L : List Letter). let G : Drawing = record { vertices = F.vertices; edges = F.edges; letters = L } in G) letters
