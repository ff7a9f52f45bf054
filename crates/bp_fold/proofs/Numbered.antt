-- The vertices as crossings of a list, and the runs between them by their numbers.
use Rattle.std.proofs.Common.{◌≡◌, ℕ, ◌+◌, ◌<◌, ◌≤◌, List, Option, None, Some, Result, Ok, Err, OnOk, length, get_or, refl, sym, ◌∙◌, ap, subst, arith, inl, inr}
use Rattle.std.specs.List.{AllPairs, Contains}
use Rattle.std.proofs.lemmas.Bool.{cases_eq, cases_order}
use Rattle.std.proofs.lemmas.List.{get_or-map, get_or_default, length-map}
use Rattle.std.proofs.lemmas.List.Elements.{Contains-get_or}
use Rattle.bp_base.specs.declared.point.Point.{Point}
use Rattle.bp_base.specs.Point.{origin}
use Rattle.bp_regions.specs.Regions.{RegionsValue}
use Rattle.bp_fold.specs.declared.mesh.Corner.{Corner}
use Rattle.bp_fold.specs.Edges.{RunsRight, RunsUp, vertex_at}
use Rattle.bp_fold.specs.Meshes.{IsMesh, crossing}
use Rattle.bp_fold.specs.Numbering.{AreCorners, IsCornerOf, Leads, StandsBefore, corner_at, point_of, points_of}
use Rattle.bp_regions.specs.Contours.{ComesBefore}
use Rattle.bp_fold.specs.Vertices.{HasRight, HasUpper, IsPairBefore, IsVertex}
use Rattle.bp_fold.proofs.Along.{on_column, on_row, right_run, right_stops, up_run}
use Rattle.bp_fold.proofs.Joins.{AreVertices, same_point}
use Rattle.bp_fold.proofs.Lines.{later}
use Rattle.bp_fold.proofs.Listing.{asymmetric, number_order}

pub corners_asym : (c d : Corner) → StandsBefore c d → StandsBefore d c → ⊥
corners_asym c d = asymmetric c.row c.column d.row d.column

module _ (R : RegionsValue) (xs ys : List ℕ) (owners : List (Option ℕ)) (mesh : IsMesh R xs ys owners) (C : List Corner) (h : AreCorners R xs ys C) where
  pub corner_is : (k : ℕ) (d : Corner) → k < length C → IsCornerOf R xs ys (get_or C k d)
  corner_is k d less = ((h.each (get_or C k d)).0 (Contains-get_or C k d less)).0

  pub vertex_is : (k : ℕ) (d : Corner) → k < length C → vertex_at (points_of xs ys C) k ≡ point_of xs ys (get_or C k d)
  vertex_is k d less = get_or-map (point_of xs ys) C k d origin less

  -- the number of a vertex's crossing
  pub corner_number : (c : Corner) → IsCornerOf R xs ys c → Contains C c
  corner_number c is = (h.each c).1 (is, inl is.1)

  points_before : (c d : Corner) → IsCornerOf R xs ys c → IsCornerOf R xs ys d → StandsBefore c d → ComesBefore (point_of xs ys c) (point_of xs ys d)
  points_before c d in_c in_d (inl less) = inl (later R.side ys mesh.rows.rising mesh.rows.first mesh.rows.last c.row d.row less in_d.1)
  points_before c d in_c in_d (inr less) = inr (ap (λ (k : ℕ). get_or ys k 0) less.0, later R.side xs mesh.columns.rising mesh.columns.first mesh.columns.last c.column d.column less.1 in_d.0)

  vertices_rise : AllPairs ComesBefore (points_of xs ys C)
  vertices_rise i j d less within =
      let in_j : j < length C = omega (arith, within, length-map C (point_of xs ys)) in
      let in_i : i < length C = omega (arith, less, in_j) in
      let z : Corner = record { column = 0; row = 0 } in
      rw (get_or-map (point_of xs ys) C i z d in_i, get_or-map (point_of xs ys) C j z d in_j) (points_before (get_or C i z) (get_or C j z) (corner_is i z in_i) (corner_is j z in_j) (h.rising i j z less in_j))

  held_is : (p : Point) → Contains (points_of xs ys C) p → IsVertex R p
  held_is p (k, less, is) =
      let in_k : k < length C = omega (arith, less, length-map C (point_of xs ys)) in
      let z : Corner = record { column = 0; row = 0 } in
      let here : point_of xs ys (get_or C k z) ≡ p = sym (get_or-map (point_of xs ys) C k z p in_k) ∙ is in
      subst (IsVertex R) here (corner_is k z in_k).2

  is_held : (p : Point) → IsVertex R p → Contains (points_of xs ys C) p
  is_held p v =
      let column = on_column R xs ys owners mesh p v in
      let row = on_row R xs ys owners mesh p v in
      let c : Corner = record { column = column.at; row = row.at } in
      let same : point_of xs ys c ≡ p = same_point (point_of xs ys c) p column.here row.here in
      let (k, less, is) = corner_number c (column.within, row.within, subst (IsVertex R) (sym same) v) in
      (k, omega (arith, less, length-map C (point_of xs ys)), get_or-map (point_of xs ys) C k c p less ∙ ap (point_of xs ys) is ∙ same)

  pub are_vertices : AreVertices R (points_of xs ys C)
  are_vertices = record { rising = vertices_rise; each = λ p. (held_is p, is_held p) }

  module _ (f : ℕ) (d : Corner) (in_f : f < length C) where
    -- where a vertex stands further on in the list than this one
    number_after : (c : Corner) → IsCornerOf R xs ys c → StandsBefore (get_or C f d) c → (k : ℕ) × (f < k) × (k < length C) × (get_or C k d ≡ c)
    number_after c is before =
        let (k, less, at) = corner_number c is in
        let here : get_or C k d ≡ c = get_or_default C k d c less ∙ at in
        let order : f < k = number_order StandsBefore corners_asym C f k d h.rising in_f less (subst (StandsBefore (get_or C f d)) (sym here) before) in
        (k, order, less, here)

    in_x : (get_or C f d).column < length xs
    in_x = (corner_is f d in_f).0

    in_y : (get_or C f d).row < length ys
    in_y = (corner_is f d in_f).1

    rows_rise : (k : ℕ) → f + 1 ≤ k → k < length C → (get_or C (f + 1) d).row ≤ (get_or C k d).row
    rows_rise k order within = elim (cases_eq (f + 1) k) [
      | inl same ↦ let e : (get_or C (f + 1) d).row ≡ (get_or C k d).row = ap (λ (m : ℕ). (get_or C m d).row) same in omega (arith, e)
      | inr apart ↦ elim (h.rising (f + 1) k d (omega (arith, order, apart)) within) [ inl less ↦ omega (arith, less) | inr less ↦ omega (arith, less.0) ]
    ]

    -- to the right of a drawn segment stands a vertex in the same row
    not_last : f + 1 ≡ length C → HasRight R (point_of xs ys (get_or C f d)) → ⊥
    not_last is right = right_stops R xs ys owners mesh (get_or C f d).column (get_or C f d).row in_x in_y right (λ c after within v.
        let (k, order, less, here) = number_after (corner_at c (get_or C f d).row) (within, in_y, v) (inr (refl, after)) in
        omega (arith, order, less, is))

    not_above : f + 1 < length C → (get_or C f d).row < (get_or C (f + 1) d).row → HasRight R (point_of xs ys (get_or C f d)) → ⊥
    not_above within higher right = right_stops R xs ys owners mesh (get_or C f d).column (get_or C f d).row in_x in_y right (λ c after inside v.
        let (k, order, less, here) = number_after (corner_at c (get_or C f d).row) (inside, in_y, v) (inr (refl, after)) in
        let row : (get_or C k d).row ≡ (get_or C f d).row = ap (λ (e : Corner). e.row) here in
        omega (arith, rows_rise k (omega (arith, order)) less, row, higher))

    in_row : f + 1 < length C → (get_or C f d).row ≡ (get_or C (f + 1) d).row → (get_or C f d).column < (get_or C (f + 1) d).column → HasRight R (point_of xs ys (get_or C f d)) → RunsRight R (point_of xs ys (get_or C f d)) (point_of xs ys (get_or C (f + 1) d))
    in_row within same after right =
        let b = get_or C (f + 1) d in
        let run = right_run R xs ys owners mesh (get_or C f d).column b.column (get_or C f d).row after (corner_is (f + 1) d within).0 in_y right (λ c from to v.
        let (k, order, less, here) = number_after (corner_at c (get_or C f d).row) (omega (arith, to, (corner_is (f + 1) d within).0), in_y, v) (inr (refl, from)) in
        let before : StandsBefore (get_or C k d) b = subst (λ (e : Corner). StandsBefore e b) (sym here) (inr (same, to)) in
        omega (arith, order, number_order StandsBefore corners_asym C k (f + 1) d h.rising less within before)) in
        subst (λ (m : ℕ). RunsRight R (point_of xs ys (get_or C f d)) (crossing xs ys b.column m)) same run

    next_right : HasRight R (point_of xs ys (get_or C f d)) → (f + 1 < length C) × RunsRight R (point_of xs ys (get_or C f d)) (point_of xs ys (get_or C (f + 1) d))
    next_right right = elim (cases_order (f + 1) (length C)) [
      | inl last ↦ absurd (not_last last right)
      | inr (inl within) ↦ elim (h.rising f (f + 1) d (omega arith) within) [
        | inl higher ↦ absurd (not_above within higher right)
        | inr next ↦ (within, in_row within next.0 next.1 right)
      ]
      | inr (inr past) ↦ absurd (omega (arith, past, in_f))
    ]

    pub leads_right : HasRight R (point_of xs ys (get_or C f d)) → Leads (RunsRight R) (points_of xs ys C) f (Some (f + 1))
    leads_right right =
        let next = next_right right in
        (omega (arith, next.0, length-map C (point_of xs ys)), rw (vertex_is f d in_f, vertex_is (f + 1) d next.0) next.1)

    pub leads_nowhere_right : (HasRight R (point_of xs ys (get_or C f d)) → ⊥) → Leads (RunsRight R) (points_of xs ys C) f None
    leads_nowhere_right none to within run =
        let p = vertex_at (points_of xs ys C) f in
        none (subst (HasRight R) (vertex_is f d in_f) (run.drawn p.x (omega arith) run.order))

    pub leads_up : (row n : ℕ) (e : Corner) → HasUpper R (point_of xs ys (get_or C f d)) → (get_or C f d).row < row → row < length ys → ((k : ℕ) → (get_or C f d).row < k → k < row → IsVertex R (crossing xs ys (get_or C f d).column k) → ⊥) → n < length C → get_or C n e ≡ corner_at (get_or C f d).column row → Leads (RunsUp R) (points_of xs ys C) f (Some n)
    leads_up row n e upper after within free in_n here =
        let run = up_run R xs ys owners mesh (get_or C f d).column (get_or C f d).row row after in_x within upper free in
        let there : RunsUp R (point_of xs ys (get_or C f d)) (point_of xs ys (get_or C n e)) = subst (λ (c : Corner). RunsUp R (point_of xs ys (get_or C f d)) (point_of xs ys c)) (sym here) run in
        (omega (arith, in_n, length-map C (point_of xs ys)), rw (vertex_is f d in_f, vertex_is n e in_n) there)

    pub leads_nowhere_up : (HasUpper R (point_of xs ys (get_or C f d)) → ⊥) → Leads (RunsUp R) (points_of xs ys C) f None
    leads_nowhere_up none to within run =
        let p = vertex_at (points_of xs ys C) f in
        none (subst (HasUpper R) (vertex_is f d in_f) (run.drawn p.y (omega arith) run.order))

-- searching for a crossing: its number lies below that of a later one
module _ (C : List Corner) (rising : AllPairs StandsBefore C) (t : Corner) where
  pub below_later : (k m : ℕ) → k < length C → m < length C → get_or C k t ≡ t → IsPairBefore t.row t.column (get_or C m (corner_at 0 0)).row (get_or C m (corner_at 0 0)).column → k < m
  below_later k m in_k in_m here before =
      let at_k : get_or C k (corner_at 0 0) ≡ t = get_or_default C k (corner_at 0 0) t in_k ∙ here in
      number_order StandsBefore corners_asym C k m (corner_at 0 0) rising in_k in_m (subst (λ (c : Corner). StandsBefore c (get_or C m (corner_at 0 0))) (sym at_k) before)

  pub not_below : (k m : ℕ) → k < length C → m < length C → get_or C k t ≡ t → (IsPairBefore t.row t.column (get_or C m (corner_at 0 0)).row (get_or C m (corner_at 0 0)).column → ⊥) → m ≤ k
  not_below k m in_k in_m here none = elim (cases_order k m) [
    | inl same ↦ omega (arith, same)
    | inr (inl less) ↦
        let at_k : get_or C k (corner_at 0 0) ≡ t = get_or_default C k (corner_at 0 0) t in_k ∙ here in
        absurd (none (subst (λ (c : Corner). StandsBefore c (get_or C m (corner_at 0 0))) at_k (rising k m (corner_at 0 0) less in_m)))
    | inr (inr more) ↦ omega (arith, more)
  ]

pub on_ok : {T E : Type 0} (r : Result T E) (A B : Type 0) → (A → B) → OnOk r A → OnOk r B
on_ok (Ok t) A B f h = f h
on_ok (Err e) A B f h = tt
