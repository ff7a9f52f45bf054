-- Going along the rows and the columns of a mesh.
use Rattle.std.proofs.Common.{◌≡◌, ◌≢◌, ◌⊎◌, ◌↔◌, ℕ, ◌+◌, ◌-◌, ◌*◌, ◌<◌, ◌≤◌, List, Option, None, Some, length, get_or, refl, sym, ap, subst, arith, inl, inr}
use Rattle.std.specs.List.Sorted.{IsStrictlyIncreasing}
use Rattle.std.proofs.lemmas.Bool.{cases_eq}
use Rattle.bp_base.specs.declared.point.Axis.TheVariants.{X, Y}
use Rattle.bp_base.specs.declared.point.Point.{Point}
use Rattle.bp_regions.specs.Cuts.{AreTogether}
use Rattle.bp_regions.specs.Regions.{RegionsValue}
use Rattle.bp_fold.specs.Edges.{RunsRight, RunsUp}
use Rattle.bp_fold.specs.Meshes.{IsMesh, crossing}
use Rattle.bp_fold.specs.Segments.{IsDrawn}
use Rattle.bp_fold.specs.Vertices.{HasLeft, HasLower, HasRight, HasUpper, IsVertex}
use Rattle.bp_fold.proofs.Crossings.{left_piece, lower_piece, no_right, no_upper}
use Rattle.bp_fold.proofs.Lines.{OnLine, Space, in_order, later, lies, up_to}
use Rattle.bp_fold.proofs.Segment.{inner_level, inner_upright, kept_owner, level_alike, level_from, level_on_line, outer_level, outer_upright, some_same, none_some, upright_alike, upright_from, upright_on_line}
use Rattle.bp_fold.proofs.Going.{run_drawn, run_free, stops, go}

-- a straight line goes on at a point that is no vertex
right_on : (R : RegionsValue) (p : Point) → (IsVertex R p → ⊥) → HasLeft R p → HasRight R p ⊎ (HasRight R p → ⊥) → HasRight R p
right_on R p none left (inl right) = right
right_on R p none left (inr not_right) = absurd (none (record {
  some = inl left;
  not_level = λ _ right _ _. not_right right;
  not_upright = λ _ _ not_left _. not_left left;
}))

up_on : (R : RegionsValue) (p : Point) → (IsVertex R p → ⊥) → HasLower R p → HasUpper R p ⊎ (HasUpper R p → ⊥) → HasUpper R p
up_on R p none lower (inl upper) = upper
up_on R p none lower (inr not_upper) = absurd (none (record {
  some = inr (inr (inl lower));
  not_level = λ _ _ not_lower _. not_lower lower;
  not_upright = λ _ upper _ _. not_upper upper;
}))

same_owner : (a b : Option ℕ) → (a ≡ b) ⊎ (a ≢ b)
same_owner None None = inl refl
same_owner None (Some n) = inr (none_some n)
same_owner (Some m) None = inr (λ same. none_some m (sym same))
same_owner (Some m) (Some n) = elim (cases_eq m n) [
  | inl same ↦ inl (ap (λ (k : ℕ). Some k) same)
  | inr apart ↦ inr (λ same. apart (some_same m n same))
]

known : {A : Type 0} (a b : Option ℕ) → (A ↔ (a ≢ b)) → A ⊎ (A → ⊥)
known a b both = elim (same_owner a b) [
  | inl same ↦ inr (λ is. both.0 is same)
  | inr apart ↦ inl (both.1 apart)
]

-- inside a space there is no line
off_line : (S : ℕ) (cuts : List ℕ) (rising : IsStrictlyIncreasing cuts) (first : get_or cuts 0 0 ≡ 0) (last : get_or cuts (length cuts - 1) 0 ≡ S) (a : ℕ) (s : Space cuts a) → get_or cuts s.at 0 < a → OnLine cuts a → ⊥
off_line S cuts rising first last a s inside on =
    let low = in_order S cuts rising first last s.at on.at (omega (arith, s.within)) on.within (omega (arith, inside, on.here)) in
    let high = in_order S cuts rising first last on.at (s.at + 1) on.within s.within (omega (arith, s.to, on.here)) in
    omega (arith, low, high)

module _ (R : RegionsValue) (xs ys : List ℕ) (owners : List (Option ℕ)) (mesh : IsMesh R xs ys owners) where
  -- each piece is drawn or not
  level_known : (i j : ℕ) → i + 1 < length xs → j < length ys → IsDrawn R X (get_or xs i 0) (get_or ys j 0) ⊎ (IsDrawn R X (get_or xs i 0) (get_or ys j 0) → ⊥)
  level_known i j in_x in_y = elim (cases_eq j 0) [
    | inl zero_row ↦ inl (outer_level R xs ys mesh.regions mesh.columns mesh.rows i j in_x (inl zero_row))
    | inr some ↦ elim (cases_eq (j + 1) (length ys)) [
      | inl last_row ↦ inl (outer_level R xs ys mesh.regions mesh.columns mesh.rows i j in_x (inr last_row))
      | inr inner ↦
          let a = get_or owners ((j - 1) * (length xs - 1) + i) None in
          let b = get_or owners (j * (length xs - 1) + i) None in
          known a b (inner_level R xs ys mesh.regions mesh.columns mesh.rows i j a b in_x (omega (arith, some)) (omega (arith, inner, in_y)) (kept_owner R xs ys owners mesh i (j - 1) a None in_x (omega (arith, some, in_y)) refl) (kept_owner R xs ys owners mesh i j b None in_x (omega (arith, inner, in_y)) refl))
    ]
  ]

  upright_known : (i j : ℕ) → i < length xs → j + 1 < length ys → IsDrawn R Y (get_or xs i 0) (get_or ys j 0) ⊎ (IsDrawn R Y (get_or xs i 0) (get_or ys j 0) → ⊥)
  upright_known i j in_x in_y = elim (cases_eq i 0) [
    | inl zero_column ↦ inl (outer_upright R xs ys mesh.regions mesh.columns mesh.rows i j in_y (inl zero_column))
    | inr some ↦ elim (cases_eq (i + 1) (length xs)) [
      | inl last_column ↦ inl (outer_upright R xs ys mesh.regions mesh.columns mesh.rows i j in_y (inr last_column))
      | inr inner ↦
          let a = get_or owners (j * (length xs - 1) + (i - 1)) None in
          let b = get_or owners (j * (length xs - 1) + i) None in
          known a b (inner_upright R xs ys mesh.regions mesh.columns mesh.rows i j a b in_y (omega (arith, some)) (omega (arith, inner, in_x)) (kept_owner R xs ys owners mesh (i - 1) j a None (omega (arith, some, in_x)) in_y refl) (kept_owner R xs ys owners mesh i j b None (omega (arith, inner, in_x)) in_y refl))
    ]
  ]

  right_known : (i j : ℕ) → i < length xs → j < length ys → HasRight R (crossing xs ys i j) ⊎ (HasRight R (crossing xs ys i j) → ⊥)
  right_known i j in_x in_y = elim (cases_eq (i + 1) (length xs)) [
    | inl last_column ↦ inr (no_right R xs ys owners mesh i j last_column)
    | inr inner ↦ level_known i j (omega (arith, inner, in_x)) in_y
  ]

  upper_known : (i j : ℕ) → i < length xs → j < length ys → HasUpper R (crossing xs ys i j) ⊎ (HasUpper R (crossing xs ys i j) → ⊥)
  upper_known i j in_x in_y = elim (cases_eq (j + 1) (length ys)) [
    | inl last_row ↦ inr (no_upper R xs ys owners mesh i j last_row)
    | inr inner ↦ upright_known i j in_x (omega (arith, inner, in_y))
  ]

  level_vertex : (p : Point) → IsVertex R p → 0 < R.side → p.x ≤ R.side → HasLeft R p ⊎ HasRight R p → OnLine xs p.x
  level_vertex p v some within level = elim (lies R.side xs mesh.columns.rising mesh.columns.first mesh.columns.last p.x some within) [
    | inl on ↦ on
    | inr (s, inside) ↦
        let none : OnLine xs p.x → ⊥ = off_line R.side xs mesh.columns.rising mesh.columns.first mesh.columns.last p.x s inside in
        let back : AreTogether xs (p.x - 1) p.x = record { at = s.at; within = s.within; a_from = omega (arith, inside); a_to = omega (arith, s.to); b_from = s.from; b_to = s.to } in
        let on : AreTogether xs p.x (p.x - 1) = record { at = s.at; within = s.within; a_from = s.from; a_to = s.to; b_from = omega (arith, inside); b_to = omega (arith, s.to) } in
        let lower_not : HasLower R p → ⊥ = λ h. none (upright_on_line R xs ys mesh.regions mesh.columns mesh.rows p.x (p.y - 1) h.1) in
        let upper_not : HasUpper R p → ⊥ = λ h. none (upright_on_line R xs ys mesh.regions mesh.columns mesh.rows p.x p.y h) in
        elim level [
          | inl left ↦ absurd (v.not_level left (level_alike R xs ys mesh.regions mesh.columns mesh.rows (p.x - 1) p.x p.y back left.1) lower_not upper_not)
          | inr right ↦ absurd (v.not_level (omega (arith, inside), level_alike R xs ys mesh.regions mesh.columns mesh.rows p.x (p.x - 1) p.y on right) right lower_not upper_not)
        ]
  ]

  upright_vertex : (p : Point) → IsVertex R p → 0 < R.side → p.y ≤ R.side → HasLower R p ⊎ HasUpper R p → OnLine ys p.y
  upright_vertex p v some within upright = elim (lies R.side ys mesh.rows.rising mesh.rows.first mesh.rows.last p.y some within) [
    | inl on ↦ on
    | inr (s, inside) ↦
        let none : OnLine ys p.y → ⊥ = off_line R.side ys mesh.rows.rising mesh.rows.first mesh.rows.last p.y s inside in
        let back : AreTogether ys (p.y - 1) p.y = record { at = s.at; within = s.within; a_from = omega (arith, inside); a_to = omega (arith, s.to); b_from = s.from; b_to = s.to } in
        let on : AreTogether ys p.y (p.y - 1) = record { at = s.at; within = s.within; a_from = s.from; a_to = s.to; b_from = omega (arith, inside); b_to = omega (arith, s.to) } in
        let left_not : HasLeft R p → ⊥ = λ h. none (level_on_line R xs ys mesh.regions mesh.columns mesh.rows (p.x - 1) p.y h.1) in
        let right_not : HasRight R p → ⊥ = λ h. none (level_on_line R xs ys mesh.regions mesh.columns mesh.rows p.x p.y h) in
        elim upright [
          | inl lower ↦ absurd (v.not_upright lower (upright_alike R xs ys mesh.regions mesh.columns mesh.rows p.x (p.y - 1) p.y back lower.1) left_not right_not)
          | inr upper ↦ absurd (v.not_upright (omega (arith, inside), upright_alike R xs ys mesh.regions mesh.columns mesh.rows p.x p.y (p.y - 1) on upper) upper left_not right_not)
        ]
  ]

  -- a vertex is a crossing of lines
  pub on_column : (p : Point) → IsVertex R p → OnLine xs p.x
  on_column p v = elim v.some [
    | inl left ↦ let from = level_from R (p.x - 1) p.y left.1 in level_vertex p v (omega (arith, from.0)) (omega (arith, from.0, left.0)) (inl left)
    | inr (inl right) ↦ let from = level_from R p.x p.y right in level_vertex p v (omega (arith, from.0)) (omega (arith, from.0)) (inr right)
    | inr (inr (inl lower)) ↦ upright_on_line R xs ys mesh.regions mesh.columns mesh.rows p.x (p.y - 1) lower.1
    | inr (inr (inr upper)) ↦ upright_on_line R xs ys mesh.regions mesh.columns mesh.rows p.x p.y upper
  ]

  pub on_row : (p : Point) → IsVertex R p → OnLine ys p.y
  on_row p v = elim v.some [
    | inl left ↦ level_on_line R xs ys mesh.regions mesh.columns mesh.rows (p.x - 1) p.y left.1
    | inr (inl right) ↦ level_on_line R xs ys mesh.regions mesh.columns mesh.rows p.x p.y right
    | inr (inr (inl lower)) ↦ let from = upright_from R p.x (p.y - 1) lower.1 in upright_vertex p v (omega (arith, from.0)) (omega (arith, from.0, lower.0)) (inl lower)
    | inr (inr (inr upper)) ↦ let from = upright_from R p.x p.y upper in upright_vertex p v (omega (arith, from.0)) (omega (arith, from.0)) (inr upper)
  ]

  -- along a row
  right_step : (j : ℕ) → j < length ys → (k : ℕ) → k + 1 < length xs → IsDrawn R X (get_or xs k 0) (get_or ys j 0) → (IsVertex R (crossing xs ys (k + 1) j) → ⊥) → IsDrawn R X (get_or xs (k + 1) 0) (get_or ys j 0)
  right_step j in_y k in_x drawn none =
      let e : k ≡ k + 1 - 1 = omega arith in
      let before : IsDrawn R X (get_or xs (k + 1 - 1) 0) (get_or ys j 0) = subst (λ (m : ℕ). IsDrawn R X (get_or xs m 0) (get_or ys j 0)) e drawn in
      right_on R (crossing xs ys (k + 1) j) none ((left_piece R xs ys owners mesh (k + 1) j (omega arith) in_x).0 before) (right_known (k + 1) j in_x in_y)

  pub right_stops : (i j : ℕ) → i < length xs → j < length ys → HasRight R (crossing xs ys i j) → ((c : ℕ) → i < c → c < length xs → IsVertex R (crossing xs ys c j) → ⊥) → ⊥
  right_stops i j in_x in_y right free =
      stops R.side xs mesh.columns.rising mesh.columns.first mesh.columns.last (λ x. IsDrawn R X x (get_or ys j 0)) (λ x. IsVertex R (record { x = x; y = get_or ys j 0 }))
      (λ x v t. level_alike R xs ys mesh.regions mesh.columns mesh.rows x v (get_or ys j 0) t) (λ x w. on_column (record { x = x; y = get_or ys j 0 }) w) (right_step j in_y) (λ k is. no_right R xs ys owners mesh k j is) i in_x right free

  pub right_run : (i k j : ℕ) → i < k → k < length xs → j < length ys → HasRight R (crossing xs ys i j) → ((c : ℕ) → i < c → c < k → IsVertex R (crossing xs ys c j) → ⊥) → RunsRight R (crossing xs ys i j) (crossing xs ys k j)
  right_run i k j order in_x in_y right free = record {
    level = refl;
    order = later R.side xs mesh.columns.rising mesh.columns.first mesh.columns.last i k order in_x;
    drawn = run_drawn R.side xs mesh.columns.rising mesh.columns.first mesh.columns.last (λ x. IsDrawn R X x (get_or ys j 0)) (λ x. IsVertex R (record { x = x; y = get_or ys j 0 }))
        (λ x v t. level_alike R xs ys mesh.regions mesh.columns mesh.rows x v (get_or ys j 0) t) (λ x w. on_column (record { x = x; y = get_or ys j 0 }) w) (right_step j in_y) (λ k is. no_right R xs ys owners mesh k j is)
        i k order in_x right free (up_to R.side xs mesh.columns.rising mesh.columns.first mesh.columns.last k in_x);
    free = run_free R.side xs mesh.columns.rising mesh.columns.first mesh.columns.last (λ x. IsDrawn R X x (get_or ys j 0)) (λ x. IsVertex R (record { x = x; y = get_or ys j 0 }))
        (λ x v t. level_alike R xs ys mesh.regions mesh.columns mesh.rows x v (get_or ys j 0) t) (λ x w. on_column (record { x = x; y = get_or ys j 0 }) w) (right_step j in_y) (λ k is. no_right R xs ys owners mesh k j is)
        i k (omega (arith, order, in_x)) in_x free;
  }

  -- along a column
  up_step : (i : ℕ) → i < length xs → (k : ℕ) → k + 1 < length ys → IsDrawn R Y (get_or xs i 0) (get_or ys k 0) → (IsVertex R (crossing xs ys i (k + 1)) → ⊥) → IsDrawn R Y (get_or xs i 0) (get_or ys (k + 1) 0)
  up_step i in_x k in_y drawn none =
      let e : k ≡ k + 1 - 1 = omega arith in
      let before : IsDrawn R Y (get_or xs i 0) (get_or ys (k + 1 - 1) 0) = subst (λ (m : ℕ). IsDrawn R Y (get_or xs i 0) (get_or ys m 0)) e drawn in
      up_on R (crossing xs ys i (k + 1)) none ((lower_piece R xs ys owners mesh i (k + 1) (omega arith) in_y).0 before) (upper_known i (k + 1) in_x in_y)

  -- the column's line goes on upwards as long as there is no vertex
  pub up_goes_on : (i j k : ℕ) → j < k → i < length xs → k < length ys → HasUpper R (crossing xs ys i j) → ((c : ℕ) → j < c → c ≤ k → IsVertex R (crossing xs ys i c) → ⊥) → k + 1 < length ys
  up_goes_on i j k order in_x in_y upper free =
      let there = go R.side ys mesh.rows.rising mesh.rows.first mesh.rows.last (λ y. IsDrawn R Y (get_or xs i 0) y) (λ y. IsVertex R (record { x = get_or xs i 0; y = y }))
      (λ y w t. upright_alike R xs ys mesh.regions mesh.columns mesh.rows (get_or xs i 0) y w t) (λ y w. on_row (record { x = get_or xs i 0; y = y }) w) (up_step i in_x) (λ k is. no_upper R xs ys owners mesh i k is)
      j k (omega (arith, order)) in_y upper free in
      omega (arith, in_y, λ (is : k + 1 ≡ length ys). no_upper R xs ys owners mesh i k is there)

  pub up_run : (i j k : ℕ) → j < k → i < length xs → k < length ys → HasUpper R (crossing xs ys i j) → ((c : ℕ) → j < c → c < k → IsVertex R (crossing xs ys i c) → ⊥) → RunsUp R (crossing xs ys i j) (crossing xs ys i k)
  up_run i j k order in_x in_y upper free = record {
    upright = refl;
    order = later R.side ys mesh.rows.rising mesh.rows.first mesh.rows.last j k order in_y;
    drawn = run_drawn R.side ys mesh.rows.rising mesh.rows.first mesh.rows.last (λ y. IsDrawn R Y (get_or xs i 0) y) (λ y. IsVertex R (record { x = get_or xs i 0; y = y }))
        (λ y w t. upright_alike R xs ys mesh.regions mesh.columns mesh.rows (get_or xs i 0) y w t) (λ y w. on_row (record { x = get_or xs i 0; y = y }) w) (up_step i in_x) (λ k is. no_upper R xs ys owners mesh i k is)
        j k order in_y upper free (up_to R.side ys mesh.rows.rising mesh.rows.first mesh.rows.last k in_y);
    free = run_free R.side ys mesh.rows.rising mesh.rows.first mesh.rows.last (λ y. IsDrawn R Y (get_or xs i 0) y) (λ y. IsVertex R (record { x = get_or xs i 0; y = y }))
        (λ y w t. upright_alike R xs ys mesh.regions mesh.columns mesh.rows (get_or xs i 0) y w t) (λ y w. on_row (record { x = get_or xs i 0; y = y }) w) (up_step i in_x) (λ k is. no_upper R xs ys owners mesh i k is)
        j k (omega (arith, order, in_y)) in_y free;
  }

  pub upper_within : (i j : ℕ) → j < length ys → HasUpper R (crossing xs ys i j) → j + 1 < length ys
  upper_within i j in_y upper = omega (arith, in_y, λ (is : j + 1 ≡ length ys). no_upper R xs ys owners mesh i j is upper)
