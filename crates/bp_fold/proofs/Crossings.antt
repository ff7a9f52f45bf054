-- The four segments at a crossing, and when it is a vertex.
use Rattle.std.proofs.Common.{◌≡◌, ◌⊎◌, ◌↔◌, ℕ, zero, suc, ◌+◌, ◌-◌, ◌*◌, ◌/◌, ◌%◌, ◌<◌, ◌≤◌, Bool, true, false, List, [], ◌∷◌, ◌++◌, Option, None, IsTrue, length, get_or, refl, sym, ◌∙◌, ap, subst, arith, inl, inr}
use Rattle.std.proofs.lemmas.Bool.{cases_eq, false≢true}
use Rattle.std.specs.List.Sorted.{IsStrictlyIncreasing}
use Rattle.std.proofs.lemmas.Nat.{mul-le}
use Rattle.std.proofs.Math.Nat.{div-lt_iff_lt-mul, mod-lt, mul_comm, zero-mul}
use Rattle.std.proofs.lemmas.List.{get_or_append_left, get_or_push, length_push}
use Rattle.bp_base.specs.declared.point.Axis.TheVariants.{X, Y}
use Rattle.bp_base.specs.declared.point.Point.{Point}
use Rattle.bp_regions.specs.Cells.{IsCell}
use Rattle.bp_regions.specs.Regions.{RegionsValue, AreRegions}
use Rattle.bp_regions.specs.Cuts.{AreCutsOf}
use Rattle.bp_fold.specs.Meshes.{IsMesh, crossing}
use Rattle.bp_fold.specs.Segments.{IsDrawn}
use Rattle.bp_fold.specs.Vertices.{HasLeft, HasLower, HasRight, HasUpper, IsVertex, is_bent}
use Rattle.bp_fold.proofs.Lines.{end_together, few, later, start_together}
use Rattle.bp_fold.proofs.Segment.{level_alike, level_from, upright_alike, upright_from}

module _ (R : RegionsValue) (xs ys : List ℕ) (owners : List (Option ℕ)) (mesh : IsMesh R xs ys owners) where
  pub no_left : (i j : ℕ) → i ≡ 0 → HasLeft R (crossing xs ys i j) → ⊥
  no_left i j is left = omega (arith, left.0, mesh.columns.first, ap (λ (m : ℕ). get_or xs m 0) is)

  pub no_lower : (i j : ℕ) → j ≡ 0 → HasLower R (crossing xs ys i j) → ⊥
  no_lower i j is lower = omega (arith, lower.0, mesh.rows.first, ap (λ (m : ℕ). get_or ys m 0) is)

  pub no_right : (i j : ℕ) → i + 1 ≡ length xs → HasRight R (crossing xs ys i j) → ⊥
  no_right i j is right =
      let e : i ≡ length xs - 1 = omega (arith, is) in
      omega (arith, (level_from R (get_or xs i 0) (get_or ys j 0) right).0, mesh.columns.last, ap (λ (m : ℕ). get_or xs m 0) e)

  pub no_upper : (i j : ℕ) → j + 1 ≡ length ys → HasUpper R (crossing xs ys i j) → ⊥
  no_upper i j is upper =
      let e : j ≡ length ys - 1 = omega (arith, is) in
      omega (arith, (upright_from R (get_or xs i 0) (get_or ys j 0) upper).0, mesh.rows.last, ap (λ (m : ℕ). get_or ys m 0) e)

  -- the left segment belongs to the piece on the left
  pub left_piece : (i j : ℕ) → 1 ≤ i → i < length xs → (IsDrawn R X (get_or xs (i - 1) 0) (get_or ys j 0) ↔ HasLeft R (crossing xs ys i j))
  left_piece i j some within =
      let less = later R.side xs mesh.columns.rising mesh.columns.first mesh.columns.last (i - 1) i (omega (arith, some)) within in (
        λ drawn. (omega (arith, less), level_alike R xs ys mesh.regions mesh.columns mesh.rows (get_or xs (i - 1) 0) (get_or xs i 0 - 1) (get_or ys j 0) (start_together R.side xs mesh.columns.rising mesh.columns.first mesh.columns.last i some within) drawn),
        λ left. level_alike R xs ys mesh.regions mesh.columns mesh.rows (get_or xs i 0 - 1) (get_or xs (i - 1) 0) (get_or ys j 0) (end_together R.side xs mesh.columns.rising mesh.columns.first mesh.columns.last i some within) left.1,
      )

  pub lower_piece : (i j : ℕ) → 1 ≤ j → j < length ys → (IsDrawn R Y (get_or xs i 0) (get_or ys (j - 1) 0) ↔ HasLower R (crossing xs ys i j))
  lower_piece i j some within =
      let less = later R.side ys mesh.rows.rising mesh.rows.first mesh.rows.last (j - 1) j (omega (arith, some)) within in (
        λ drawn. (omega (arith, less), upright_alike R xs ys mesh.regions mesh.columns mesh.rows (get_or xs i 0) (get_or ys (j - 1) 0) (get_or ys j 0 - 1) (start_together R.side ys mesh.rows.rising mesh.rows.first mesh.rows.last j some within) drawn),
        λ lower. upright_alike R xs ys mesh.regions mesh.columns mesh.rows (get_or xs i 0) (get_or ys j 0 - 1) (get_or ys (j - 1) 0) (end_together R.side ys mesh.rows.rising mesh.rows.first mesh.rows.last j some within) lower.1,
      )

  pub left_answer : (i j : ℕ) (r : Bool) → (i ≡ 0 → ⊥) → i < length xs → (IsTrue r ↔ IsDrawn R X (get_or xs (i - 1) 0) (get_or ys j 0)) → (IsTrue r ↔ HasLeft R (crossing xs ys i j))
  left_answer i j r some within is =
      let piece = left_piece i j (omega (arith, some)) within in
      (λ t. piece.0 (is.0 t), λ left. is.1 (piece.1 left))

  pub lower_answer : (i j : ℕ) (r : Bool) → (j ≡ 0 → ⊥) → j < length ys → (IsTrue r ↔ IsDrawn R Y (get_or xs i 0) (get_or ys (j - 1) 0)) → (IsTrue r ↔ HasLower R (crossing xs ys i j))
  lower_answer i j r some within is =
      let piece = lower_piece i j (omega (arith, some)) within in
      (λ t. piece.0 (is.0 t), λ lower. is.1 (piece.1 lower))

level_not : (l r d u : Bool) → IsTrue l → IsTrue r → (IsTrue d → ⊥) → (IsTrue u → ⊥) → IsTrue (is_bent l r d u) → ⊥
level_not true true false false l r d u t = false≢true t
level_not false r d u l rr dd uu t = false≢true l
level_not true false d u l r dd uu t = false≢true r
level_not true true true u l r d uu t = d refl
level_not true true false true l r d u t = u refl

upright_not : (l r d u : Bool) → IsTrue d → IsTrue u → (IsTrue l → ⊥) → (IsTrue r → ⊥) → IsTrue (is_bent l r d u) → ⊥
upright_not false false true true d u l r t = false≢true t
upright_not l r false u d uu ll rr t = false≢true d
upright_not l r true false d u ll rr t = false≢true u
upright_not true r true true d u l rr t = l refl
upright_not false true true true d u l r t = r refl

-- which segments make a vertex
module _ (R : RegionsValue) (p : Point) where
  bent : (l r d u : Bool) → (IsTrue l ↔ HasLeft R p) → (IsTrue r ↔ HasRight R p) → (IsTrue d ↔ HasLower R p) → (IsTrue u ↔ HasUpper R p) → IsVertex R p → IsTrue (is_bent l r d u)
  bent false false false false hl hr hd hu v = elim v.some [
    | inl left ↦ hl.1 left
    | inr (inl right) ↦ hr.1 right
    | inr (inr (inl lower)) ↦ hd.1 lower
    | inr (inr (inr upper)) ↦ hu.1 upper
  ]
  bent true true false false hl hr hd hu v = absurd (v.not_level (hl.0 refl) (hr.0 refl) (λ d. false≢true (hd.1 d)) (λ u. false≢true (hu.1 u)))
  bent false false true true hl hr hd hu v = absurd (v.not_upright (hd.0 refl) (hu.0 refl) (λ l. false≢true (hl.1 l)) (λ r. false≢true (hr.1 r)))
  bent l r d u hl hr hd hu v = refl

  some_of : (l r d u : Bool) → (IsTrue l ↔ HasLeft R p) → (IsTrue r ↔ HasRight R p) → (IsTrue d ↔ HasLower R p) → (IsTrue u ↔ HasUpper R p) → IsTrue (is_bent l r d u) → HasLeft R p ⊎ HasRight R p ⊎ HasLower R p ⊎ HasUpper R p
  some_of true r d u hl hr hd hu t = inl (hl.0 refl)
  some_of false true d u hl hr hd hu t = inr (inl (hr.0 refl))
  some_of false false true u hl hr hd hu t = inr (inr (inl (hd.0 refl)))
  some_of false false false true hl hr hd hu t = inr (inr (inr (hu.0 refl)))
  some_of false false false false hl hr hd hu t = absurd (false≢true t)

  pub vertex_answer : (l r d u b : Bool) → b ≡ is_bent l r d u → (IsTrue l ↔ HasLeft R p) → (IsTrue r ↔ HasRight R p) → (IsTrue d ↔ HasLower R p) → (IsTrue u ↔ HasUpper R p) → (IsTrue b ↔ IsVertex R p)
  vertex_answer l r d u b is hl hr hd hu = rw is (
    λ t. record {
      some = some_of l r d u hl hr hd hu t;
      not_level = λ left right lower upper. level_not l r d u (hl.1 left) (hr.1 right) (λ e. lower (hd.0 e)) (λ e. upper (hu.0 e)) t;
      not_upright = λ lower upper left right. upright_not l r d u (hd.1 lower) (hu.1 upper) (λ e. left (hl.0 e)) (λ e. right (hr.0 e)) t;
    },
    bent l r d u hl hr hd hu,
  )

-- the number of cells is small
few_spaces : (S : ℕ) (cuts : List ℕ) (rising : IsStrictlyIncreasing cuts) (first : get_or cuts 0 0 ≡ 0) (last : get_or cuts (length cuts - 1) 0 ≡ S) → S ≤ 999999999 → length cuts - 1 ≤ 999999999
few_spaces S cuts rising first last small = omega (arith, small, few S cuts rising first last)

pub few_cells : (R : RegionsValue) (xs ys : List ℕ) (a b : ℕ) → AreRegions R → AreCutsOf R X xs → AreCutsOf R Y ys → a ≡ length xs - 1 → b ≡ length ys - 1 → a * b ≤ 999999998000000001
few_cells R xs ys a b regions columns rows is_a is_b =
    let few_a : a ≤ 999999999 = omega (arith, is_a, few_spaces R.side xs columns.rising columns.first columns.last regions.placed.small) in
    let few_b : b ≤ 999999999 = omega (arith, is_b, few_spaces R.side ys rows.rising rows.first rows.last regions.placed.small) in
    mul-le a b 999999999 999999999 few_a few_b

some_spaces : (n m k : ℕ) → k < n * m → 0 < n
some_spaces zero m k less = absurd (omega (arith, less, zero-mul m))
some_spaces (suc n) m k less = omega arith

-- the unit cell at the lower left of a cell
pub is_cell : (R : RegionsValue) (xs ys : List ℕ) (k n : ℕ) → AreCutsOf R X xs → AreCutsOf R Y ys → n ≡ length xs - 1 → k < n * (length ys - 1) → IsCell R.side (get_or xs (k % n) 0) (get_or ys (k / n) 0)
is_cell R xs ys k n columns rows is less =
    let m = length ys - 1 in
    let some : 0 < n = some_spaces n m k less in
    let in_x : k % n < n = mod-lt k some in
    let in_y : k / n < m = (div-lt_iff_lt-mul some).1 (omega (arith, less, mul_comm n m)) in
    let x = later R.side xs columns.rising columns.first columns.last (k % n) (length xs - 1) (omega (arith, in_x, is)) (omega (arith, in_x, is)) in
    let y = later R.side ys rows.rising rows.first rows.last (k / n) (length ys - 1) in_y (omega (arith, in_y)) in
    (omega (arith, x, columns.last), omega (arith, y, rows.last))

-- one more owner
pub owned_more : (F : ℕ → Option ℕ → Type 0) (before after : List (Option ℕ)) (k : ℕ) (o : Option ℕ) → length before ≡ k → after ≡ before ++ o ∷ [] → ((a : ℕ) → a < k → F a (get_or before a None)) → F k o → (length after ≡ k + 1) × ((a : ℕ) → a < k + 1 → F a (get_or after a None))
owned_more F before after k o len is each new = (
  ap length is ∙ length_push before o ∙ ap (λ (n : ℕ). n + 1) len,
  λ a less. elim (cases_eq a k) [
    | inl same ↦ rw (same, is) (subst (F k) (sym (get_or_push before o None k len)) new)
    | inr apart ↦ rw is (subst (F a) (sym (get_or_append_left before (o ∷ []) None a (omega (arith, less, apart, len)))) (each a (omega (arith, less, apart))))
  ],
)
