-- A question has a placement exactly where the steady coordinate is at most its number.
use Rattle.std.proofs.Common.{◌≡◌, inl, inr, ℕ, zero, suc, ◌+◌, ◌-◌, ◌*◌, ◌<◌, ◌≤◌, max, List, [], ◌∷◌, ◌++◌, length, get_or, take, drop, replicate, refl, sym, ◌∙◌, ap, subst, arith}
use Rattle.std.specs.Int.{abs_diff}
use Rattle.std.proofs.lemmas.List.{length-take-le, length-drop, get_or-take, get_or-drop, get_or_append_left, get_or-append-add, length-append}
use Rattle.std.proofs.lemmas.Bool.{cases_eq, cases_lt}
use Rattle.bp_base.specs.declared.point.Axis.{Axis}
use Rattle.bp_base.specs.declared.point.Axis.TheVariants.{X, Y}
use Rattle.bp_base.specs.declared.point.Point.{Point}
use Rattle.bp_base.specs.declared.point.Sheet.{Sheet}
use Rattle.bp_base.specs.Limits.{most_number}
use Rattle.bp_base.specs.Point.{gap, origin, point_at}
use Rattle.bp_base.specs.Tree.{TreeValue, IsLeaf, leaf_count}
use Rattle.bp_metric.specs.Distance.{leaf_dist}
use Rattle.bp_metric.specs.Steady.{IsSteady}
use Rattle.bp_metric.specs.Valid.{Lies, Valid}
use Rattle.bp_steady.specs.Bounds.{BoundsValue, place, of_leaf}
use Rattle.bp_steady.specs.Questions.{coordinates, end_of, ends, question}
use Rattle.bp_steady.specs.Searching.{AreBounds, AreFar, HasPlacing, IsPlacing, NoPlacing}
use Rattle.bp_steady.proofs.Coords.{coordinates_each, coordinate_at, ends_each, ends_at, lies_from, of_point, within_ends, not_after_at, stands_for, leaf_within, points_from, points_each, point_is}

-- the numbers of a list with one number at c between two parts
module _ (xs ys : List ℕ) (c v : ℕ) (each : length xs ≡ c) where
  pub part_before : (k : ℕ) → k < c → get_or (xs ++ v ∷ ys) k 0 ≡ get_or xs k 0
  part_before k less = get_or_append_left xs (v ∷ ys) 0 k (omega (arith, less, each))

  pub part_after : (j : ℕ) → get_or (xs ++ v ∷ ys) (c + j) 0 ≡ get_or (v ∷ ys) j 0
  part_after j = ap (λ (m : ℕ). get_or (xs ++ v ∷ ys) (m + j) 0) (sym each) ∙ get_or-append-add xs (v ∷ ys) j 0

module _ (a e : List ℕ) (c v : ℕ) (same : length a ≡ length e) (within : c < length e) where
  abbrev q : BoundsValue
  q = question a e c v

  taken : length (take c a) ≡ c
  taken = length-take-le c a (omega (arith, same, within))

  low_before : (k : ℕ) → k < c → get_or q.low k 0 ≡ get_or a k 0
  low_before k less =
      get_or_append_left (take c a) (replicate (length e - c) 0) 0 k (omega (arith, less, taken)) ∙ get_or-take c a k 0 less

  pub low_after : (k : ℕ) → c ≤ k → get_or q.low k 0 ≡ 0
  low_after k past =
      let at : length (take c a) + (k - c) ≡ k = omega (arith, past, taken) in
      ap (λ (m : ℕ). get_or q.low m 0) (sym at) ∙ get_or-append-add (take c a) (replicate (length e - c) 0) (k - c) 0 ∙ zeros (length e - c) (k - c)
    where
      zeros : (m j : ℕ) → get_or (replicate {A = ℕ} m 0) j 0 ≡ 0
      zeros zero j = refl
      zeros (suc m) zero = refl
      zeros (suc m) (suc j) = zeros m j

  high_before : (k : ℕ) → k < c → get_or q.high k 0 ≡ get_or a k 0
  high_before k less = part_before (take c a) (drop (c + 1) e) c v taken k less ∙ get_or-take c a k 0 less

  pub high_here : get_or q.high c 0 ≡ v
  high_here =
      let at : c + 0 ≡ c = omega arith in
      ap (λ (m : ℕ). get_or q.high m 0) (sym at) ∙ part_after (take c a) (drop (c + 1) e) c v taken 0

  high_after : (k : ℕ) → c < k → get_or q.high k 0 ≡ get_or e k 0
  high_after k past =
      let at : c + suc (k - (c + 1)) ≡ k = omega (arith, past) in
      let from : c + 1 + (k - (c + 1)) ≡ k = omega (arith, past) in
      ap (λ (m : ℕ). get_or q.high m 0) (sym at)
      ∙ part_after (take c a) (drop (c + 1) e) c v taken (suc (k - (c + 1)))
      ∙ get_or-drop (c + 1) e (k - (c + 1)) 0
      ∙ ap (λ (m : ℕ). get_or e m 0) from

  -- no number of it passes the ends
  high_within : v ≤ get_or e c 0 → ((k : ℕ) → get_or a k 0 ≤ get_or e k 0) → (k : ℕ) → get_or q.high k 0 ≤ get_or e k 0
  high_within small below k = elim (cases_lt k c) [
    | inl less ↦ omega (arith, high_before k less, below k)
    | inr most ↦ elim (cases_eq k c) [
      | inl is ↦ omega (arith, ap (λ (m : ℕ). get_or q.high m 0) is, high_here, small, ap (λ (m : ℕ). get_or e m 0) is)
      | inr other ↦ omega (arith, high_after k (omega (arith, most, other)))
    ]
  ]

  pub are_bounds : (T : TreeValue) → length e ≡ 2 * leaf_count T → v ≤ get_or e c 0 → ((k : ℕ) → get_or a k 0 ≤ get_or e k 0) → ((k : ℕ) → get_or e k 0 ≤ most_number) → AreBounds T q
  are_bounds T each small below few = record {
    each_low = omega (arith, length-append (take c a) (replicate (length e - c) 0), taken, zeros_each (length e - c), each, within);
    each_high = omega (arith, length-append (take c a) (v ∷ drop (c + 1) e), taken, length-drop (c + 1) e, each, within);
    rise = λ k. elim (cases_lt k c) [
      | inl less ↦ omega (arith, low_before k less, high_before k less)
      | inr most ↦ omega (arith, low_after k most)
    ];
    small = λ k. omega (arith, high_within small below k, few k);
  }
    where
      zeros_each : (m : ℕ) → length (replicate {A = ℕ} m 0) ≡ m
      zeros_each zero = refl
      zeros_each (suc m) = omega (arith, zeros_each m)

  -- the steady coordinates keep to it where the number is no less than that at c
  pub keeps_steady : get_or a c 0 ≤ v → ((k : ℕ) → get_or a k 0 ≤ get_or e k 0) → (k : ℕ) → (get_or q.low k 0 ≤ get_or a k 0) × (get_or a k 0 ≤ get_or q.high k 0)
  keeps_steady less below k = elim (cases_lt k c) [
    | inl before ↦ (omega (arith, low_before k before), omega (arith, high_before k before))
    | inr most ↦ (
      omega (arith, low_after k most),
      elim (cases_eq k c) [
        | inl is ↦ omega (arith, ap (λ (m : ℕ). get_or q.high m 0) is, high_here, less, ap (λ (m : ℕ). get_or a m 0) is)
        | inr other ↦ omega (arith, high_after k (omega (arith, most, other)), below k)
      ],
    )
  ]

-- Placements.

module _ (T : TreeValue) (G : Sheet) (S : ℕ) (P : List Point) (steady : IsSteady T G S P) where
  abbrev pub a : List ℕ
  a = coordinates P

  abbrev pub e : List ℕ
  e = ends G S (leaf_count T)

  pub each_end : length e ≡ 2 * leaf_count T
  each_end = ends_each G S (leaf_count T)

  pub each_coordinate : length a ≡ length e
  each_coordinate = omega (arith, coordinates_each P, steady.valid.each, each_end)

  pub below_ends : (k : ℕ) → get_or a k 0 ≤ get_or e k 0
  below_ends = within_ends G S (leaf_count T) P steady.valid.each (λ k less.
      let at : k + 1 - 1 ≡ k = omega arith in
      subst (λ (m : ℕ). Lies G 1 S (get_or P m origin)) at (steady.valid.inside (k + 1) (omega arith, omega (arith, less, steady.valid.each))))

  far_points : AreFar T (of_leaf a)
  far_points i j pair =
      let x_i = coordinate_at P X i in
      let x_j = coordinate_at P X j in
      let y_i = coordinate_at P Y i in
      let y_j = coordinate_at P Y j in
      let far : leaf_dist T i j ≤ gap (point_at P i) (point_at P j) = omega (arith, steady.valid.far i j pair) in
      subst (λ (m : ℕ). leaf_dist T i j ≤ m) (λ k. max (abs_diff (sym x_i k) (sym x_j k)) (abs_diff (sym y_i k) (sym y_j k))) far

  module _ (c v : ℕ) (within : c < length e) (small : v ≤ get_or e c 0) where
    -- the steady placement is one
    pub steady_placing : get_or a c 0 ≤ v → HasPlacing T (question a e c v)
    steady_placing less = (
      of_leaf a,
      record {
        keeps = λ axis i leaf. keeps_steady a e c v each_coordinate within less below_ends (place axis i);
        meets = λ axis i j placed. absurd placed;
        far = far_points;
      },
    )

    module _ (f : Axis → ℕ → ℕ) (placing : IsPlacing T (question a e c v) [] f) where
      abbrev Q : List Point
      Q = points_from f 1 (leaf_count T)

      point : (i : ℕ) → IsLeaf T i → point_at Q i ≡ record { x = f X i; y = f Y i }
      point i leaf = point_is f (leaf_count T) i leaf.0 leaf.1

      ended : (axis : Axis) (i : ℕ) → IsLeaf T i → f axis i ≤ end_of G S axis
      ended axis i leaf =
          omega (arith, (placing.keeps axis i leaf).1, high_within a e c v each_coordinate within small below_ends (place axis i), ends_at G S (leaf_count T) axis i leaf.0 leaf.1)

      valid : Valid T G 1 S Q
      valid = record {
        each = points_each f 1 (leaf_count T);
        inside = λ i leaf. subst (Lies G 1 S) (sym (point i leaf)) (lies_from G S (record { x = f X i; y = f Y i }) (ended X i leaf) (ended Y i leaf));
        far = λ i j pair.
            let p = point i (pair.0, omega (arith, pair.1, pair.2)) in
            let r = point j (omega (arith, pair.0, pair.1), pair.2) in
            let there : leaf_dist T i j ≤ gap (point_at Q i) (point_at Q j) =
            subst (λ (m : ℕ). leaf_dist T i j ≤ m) (λ k. gap (sym p k) (sym r k)) (placing.far i j pair) in
            omega (arith, there);
      }

      at_place : (k : ℕ) → k < length e → (axis : Axis) × ((i : ℕ) × IsLeaf T i × (k ≡ place axis i) × (get_or (coordinates Q) k 0 ≡ f axis i))
      at_place k less =
          let s = stands_for k in
          let leaf : IsLeaf T s.i = (s.from, leaf_within s.axis (leaf_count T) s.i k s.is (omega (arith, less, each_end)) s.from) in
          (s.axis, (s.i, leaf, s.is, ap (λ (m : ℕ). get_or (coordinates Q) m 0) s.is ∙ coordinate_at Q s.axis s.i ∙ of_it s.axis s.i leaf))
        where
          of_it : (axis : Axis) (i : ℕ) → IsLeaf T i → of_point axis (point_at Q i) ≡ f axis i
          of_it X i leaf = ap (λ (p : Point). p.x) (point i leaf)
          of_it Y i leaf = ap (λ (p : Point). p.y) (point i leaf)

      kept : (k : ℕ) → k < length e → (get_or (question a e c v).low k 0 ≤ get_or (coordinates Q) k 0) × (get_or (coordinates Q) k 0 ≤ get_or (question a e c v).high k 0)
      kept k less =
          let s = at_place k less in
          let keeps = placing.keeps s.0 s.1.0 s.1.1 in (
            omega (arith, keeps.0, ap (λ (m : ℕ). get_or (question a e c v).low m 0) s.1.2, s.1.3),
            omega (arith, keeps.1, ap (λ (m : ℕ). get_or (question a e c v).high m 0) s.1.2, s.1.3),
          )

      -- its number is no less than the steady coordinate
      pub placing_most : get_or a c 0 ≤ v
      placing_most =
          let most : get_or a c 0 ≤ get_or (coordinates Q) c 0 = not_after_at P Q c (steady.valid.each ∙ sym valid.each) (steady.least Q valid) before in
          omega (arith, most, (kept c within).1, high_here a e c v each_coordinate within)
        where
          before : (k : ℕ) → k < c → get_or a k 0 ≡ get_or (coordinates Q) k 0
          before k less =
              let both = kept k (omega (arith, less, within)) in
              omega (arith, both.0, both.1, low_before a e c v each_coordinate within k less, high_before a e c v each_coordinate within k less)

    pub has_placing_most : HasPlacing T (question a e c v) → get_or a c 0 ≤ v
    has_placing_most has = placing_most has.0 has.1

    pub no_placing_more : NoPlacing T (question a e c v) [] → v < get_or a c 0
    no_placing_more none = elim (cases_lt v (get_or a c 0)) [
      | inl less ↦ less
      | inr most ↦ let has = steady_placing most in absurd (none has.0 has.1)
    ]
