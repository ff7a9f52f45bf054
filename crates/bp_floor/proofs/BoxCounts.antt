-- The law of floors: leaves that are pairwise m apart need the side that counting boxes gives, on any finer grid too.
use Rattle.std.proofs.Common.{◌≡◌, ◌≢◌, inl, inr, ℕ, suc, ◌+◌, ◌-◌, ◌*◌, ◌/◌, ◌%◌, ◌<◌, ◌≤◌, true, eqb, List, [], ◌∷◌, length, get_or, map, All, AllPairs, refl, sym, ◌∙◌, ap, arith}
use Rattle.std.specs.List.{list_any}
use Rattle.std.specs.Int.{abs_diff}
use Rattle.std.proofs.lemmas.Bool.{cases_lt, or_cases, eqb-true, false≢true}
use Rattle.std.proofs.lemmas.Bool.Decides.{Decides-eqb}
use Rattle.std.proofs.lemmas.Nat.{mul-add-lt}
use Rattle.std.proofs.lemmas.List.{get_or-map, length-map}
use Rattle.std.proofs.lemmas.Map.Made.{IsDistinct-from_AllPairs}
use Rattle.std.proofs.lemmas.Map.Steps.{length-le_from_distinct_below}
use Rattle.std.proofs.Math.Nat.{mul-le-mul_left, mul_assoc}
use Rattle.bp_base.specs.declared.point.Point.{Point}
use Rattle.bp_base.specs.declared.point.Floor.{Floor}
use Rattle.bp_base.specs.declared.point.Sheet.{Sheet}
use Rattle.bp_base.specs.declared.point.Sheet.TheVariants.{Square, Strip}
use Rattle.bp_base.specs.Tree.{TreeValue, IsLeaf}
use Rattle.bp_base.specs.Point.{point_at, gap}
use Rattle.bp_metric.specs.Distance.{leaf_dist}
use Rattle.bp_metric.specs.Valid.{Valid, NoneBelow}
use Rattle.bp_metric.specs.Floor.{room_of, rows_for, FloorHolds}
use Rattle.bp_floor.proofs.BoxRows.{rows_least, rows_some}

-- numbers that are D apart lie in different boxes of width D
boxes_differ : (D a b : ℕ) → 1 ≤ D → D ≤ abs_diff a b → a / D ≡ b / D → ⊥
boxes_differ D a b positive far same =
    let product : D * (a / D) ≡ D * (b / D) = ap (λ (t : ℕ). D * t) same in
    let pa : D * (a / D) + a % D ≡ a = omega arith in
    let pb : D * (b / D) + b % D ≡ b = omega arith in
    let ra : a % D < D = omega arith in
    let rb : b % D < D = omega arith in
    omega (arith, product, pa, pb, ra, rb, far)

box_below : (D c a : ℕ) → 1 ≤ D → a < D * c → a / D < c
box_below D c a positive less = elim (cases_lt (a / D) c) [
  | inl below ↦ below
  | inr above ↦
      let pa : D * (a / D) + a % D ≡ a = omega arith in
      let le = mul-le-mul_left D above in
      absurd (omega (arith, pa, le, less))
]

-- on a grid q times finer a strip has as many boxes to a row
column_below : (q m width x : ℕ) → 1 ≤ q → 1 ≤ m → 1 ≤ q * m → x ≤ q * width → x / (q * m) < width / m + 1
column_below q m width x q1 m1 positive within =
    let whole : m * (width / m) + width % m ≡ width = omega arith in
    let rest : width % m < m = omega arith in
    let next : m * (width / m + 1) ≡ m * (width / m) + m = omega arith in
    let above : width + 1 ≤ m * (width / m + 1) = omega (arith, whole, rest, next) in
    let scaled : q * (width + 1) ≤ q * (m * (width / m + 1)) = mul-le-mul_left q above in
    let split : q * (width + 1) ≡ q * width + q = omega arith in
    box_below (q * m) (width / m + 1) x positive (omega (arith, scaled, split, mul_assoc q m (width / m + 1), within, q1))

-- the numbers of two boxes are equal only where their rows and columns are
code_same : (c t u v w : ℕ) → u < c → w < c → t * c + u ≡ v * c + w → (t ≡ v) × (u ≡ w)
code_same c t u v w uc wc same = elim (cases_lt t v) [
  | inl less ↦ let next : t + 1 ≤ v = omega arith in let le : c * (t + 1) ≤ c * v = mul-le-mul_left c next in absurd (omega (arith, le, same, uc, wc))
  | inr more ↦ elim (cases_lt v t) [
    | inl less ↦ let next : v + 1 ≤ t = omega arith in let le : c * (v + 1) ≤ c * t = mul-le-mul_left c next in absurd (omega (arith, le, same, uc, wc))
    | inr le ↦ let eq : t ≡ v = omega arith in let pq : t * c ≡ v * c = ap (λ (x : ℕ). x * c) eq in (eq, omega (arith, pq, same))
  ]
]

below_any : (xs : List ℕ) (n : ℕ) → All (λ x. x < n) xs → (q : ℕ) → list_any (eqb q) xs ≡ true → q < n
below_any [] n all q has = absurd (false≢true has)
below_any (x ∷ xs) n all q has = elim (or_cases (eqb q x) (list_any (eqb q) xs) has) [
  | inl here ↦ let is = eqb-true q x here in let h = all 0 0 (omega arith) in omega (arith, is, h)
  | inr there ↦ below_any xs n (λ k d less. all (suc k) d (omega arith)) q there
]

-- A box of side q m holds at most one of the leaves: so many rows and columns of boxes bound their number.
module _ (T : TreeValue) (G : Sheet) (P : List Point) (q s m rows columns : ℕ) (ls : List ℕ) (v : Valid T G q s P) where
  abbrev D : ℕ
  D = q * m

  abbrev code : ℕ → ℕ
  code i = ((point_at P i).x / D) * rows + (point_at P i).y / D

  boxes : 1 ≤ D → ((i : ℕ) → IsLeaf T i → (point_at P i).x / D < columns) → ((i : ℕ) → IsLeaf T i → (point_at P i).y / D < rows) → ((k : ℕ) → k < length ls → IsLeaf T (get_or ls k 0)) → ((k l : ℕ) → k < l → l < length ls → get_or ls k 0 < get_or ls l 0) → ((k l : ℕ) → k < l → l < length ls → m ≤ leaf_dist T (get_or ls k 0) (get_or ls l 0)) → length ls ≤ rows * columns
  boxes positive x_in y_in leaf rising far =
      let codes = map code ls in
      let at : (k d : ℕ) → k < length ls → get_or codes k d ≡ code (get_or ls k 0) = λ k d less. get_or-map code ls k 0 d less in
      let long = length-map ls code in
      let all_below : All (λ x. x < rows * columns) codes = λ k d less.
      let k_in : k < length ls = omega (arith, long) in
      let i = get_or ls k 0 in
      let h = mul-add-lt ((point_at P i).x / D) rows ((point_at P i).y / D) columns (x_in i (leaf k k_in)) (y_in i (leaf k k_in)) in
      omega (arith, at k d k_in, h) in
      let apart : AllPairs (λ a b. a ≢ b) codes = λ k l d kl less same.
      let l_in : l < length ls = omega (arith, long) in
      let k_in : k < length ls = omega (arith, long) in
      let i = get_or ls k 0 in
      let j = get_or ls l 0 in
      let a = point_at P i in
      let b = point_at P j in
      let eq = code_same rows (a.x / D) (a.y / D) (b.x / D) (b.y / D) (y_in i (leaf k k_in)) (y_in j (leaf l l_in)) (sym (at k d k_in) ∙ same ∙ at l d l_in) in
      let apart_by : q * leaf_dist T i j ≤ gap a b = v.far i j ((leaf k k_in).0, rising k l kl l_in, (leaf l l_in).1) in
      let scaled : q * m ≤ q * leaf_dist T i j = mul-le-mul_left q (far k l kl l_in) in
      elim (cases_lt (abs_diff a.x b.x) D) [
        | inl near ↦ boxes_differ D a.y b.y positive (omega (arith, apart_by, scaled, near)) eq.1
        | inr apart_x ↦ boxes_differ D a.x b.x positive apart_x eq.0
      ] in
      omega (arith, long, length-le_from_distinct_below codes (rows * columns) (IsDistinct-from_AllPairs Decides-eqb codes apart) (below_any codes (rows * columns) all_below))

-- fewer boxes than leaves would hold them
module _ (T : TreeValue) (G : Sheet) (f : Floor) (h : FloorHolds T G f) (q s : ℕ) (P : List Point) (q1 : 1 ≤ q) (less : s < q * f.side) (v : Valid T G q s P) where
  abbrev rows : ℕ
  rows = rows_for G f.m (length f.leaves) - 1

  positive : 1 ≤ q * f.m
  positive = let m1 = h.apart in grind arith

  small : s < q * f.m * rows
  small =
      let side : q * f.side ≡ q * f.m * rows = ap (λ (x : ℕ). q * x) h.side ∙ sym (mul_assoc q f.m rows) in
      omega (arith, side, less)

  few : room_of G f.m rows < length f.leaves
  few = let some = rows_some G f.m (length f.leaves) h.some in rows_least G f.m (length f.leaves) rows (omega (arith, some))

  low : (y : ℕ) → y ≤ s → y / (q * f.m) < rows
  low y within = box_below (q * f.m) rows y positive (omega (arith, within, small))

  counted : (columns : ℕ) → ((i : ℕ) → IsLeaf T i → (point_at P i).x / (q * f.m) < columns) → ((i : ℕ) → IsLeaf T i → (point_at P i).y ≤ s) → room_of G f.m rows ≡ rows * columns → ⊥
  counted columns x_in y_in room =
      let fits = boxes T G P q s f.m rows columns f.leaves v positive x_in (λ i leaf. low (point_at P i).y (y_in i leaf)) h.leaf h.rising h.far in
      omega (arith, fits, few, room)

pub floor_law : (T : TreeValue) (G : Sheet) (f : Floor) → FloorHolds T G f → NoneBelow T G f.side
floor_law T Square f h q s P q1 less v =
    counted T Square f h q s P q1 less v (rows_for Square f.m (length f.leaves) - 1) (λ i leaf. low T Square f h q s P q1 less v (point_at P i).x (v.inside i leaf).0) (λ i leaf. (v.inside i leaf).1) refl
floor_law T (Strip width) f h q s P q1 less v =
    counted T (Strip width) f h q s P q1 less v (width / f.m + 1) (λ i leaf. column_below q f.m width (point_at P i).x q1 h.apart (positive T (Strip width) f h q s P q1 less v) (v.inside i leaf).0) (λ i leaf. (v.inside i leaf).1) refl
