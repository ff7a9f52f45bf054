-- The least number of rows that hold a number of points.
use Rattle.std.proofs.Common.{◌≡◌, inl, inr, ℕ, zero, suc, ◌+◌, ◌-◌, ◌*◌, ◌/◌, ◌<◌, ◌≤◌, Bool, true, false, find, Some, sym, ◌∙◌, ap, subst, arith}
use Rattle.std.specs.Prelude.{nat_le, unwrap_or}
use Rattle.std.specs.List.{range_with_len}
use Rattle.std.proofs.lemmas.Bool.{cases_eq, cases_lt, le-leb, lt-leb}
use Rattle.std.proofs.Math.Nat.{mul-le-mul}
use Rattle.bp_base.specs.declared.point.Sheet.{Sheet}
use Rattle.bp_base.specs.declared.point.Sheet.TheVariants.{Square, Strip}
use Rattle.bp_base.specs.Limits.{most_leaves}
use Rattle.bp_metric.specs.Distance.{most_distance, most_side}
use Rattle.bp_metric.specs.Floor.{room_of, rows_for, box_side}

find_range : (p : ℕ → Bool) (a n r : ℕ) → a ≤ r → r < a + n → ((k : ℕ) → a ≤ k → k < r → p k ≡ false) → p r ≡ true → find p (range_with_len a n) ≡ Some r
find_range p a zero r from to before here = absurd (omega arith)
find_range p a (suc n) r from to before here = elim (cases_eq a r) [
  | inl same ↦ let first : p a ≡ true = ap p same ∙ here in rw first (ap (λ (k : ℕ). Some k) same)
  | inr other ↦
      let first : p a ≡ false = before a (omega arith) (omega arith) in
      rw first (find_range p (a + 1) n r (omega arith) (omega arith) (λ k le less. before k (omega arith) less) here)
]

row_grows : (r c : ℕ) → r ≤ r * (c + 1)
row_grows r c = grind arith

room_grows : (G : Sheet) (m r : ℕ) → r ≤ room_of G m r
room_grows Square m zero = omega arith
room_grows Square m (suc r) = grind arith
room_grows (Strip width) m r = row_grows r (width / m)

module _ (G : Sheet) (m K : ℕ) where
  -- rows that are enough, where no fewer are
  pub rows_is : (r : ℕ) → r ≤ K → ((k : ℕ) → k < r → room_of G m k < K) → K ≤ room_of G m r → r ≡ rows_for G m K
  unfolding rows_for
  rows_is r within before here =
      let found : find (λ k. nat_le K (room_of G m k)) (range_with_len 0 (K + 1)) ≡ Some r = find_range (λ k. nat_le K (room_of G m k)) 0 (K + 1) r (omega arith) (omega arith) (λ k le less. lt-leb K (room_of G m k) (before k less)) (le-leb K (room_of G m r) here) in
      sym (ap (λ o. unwrap_or o 0) found)

  pub rows_last : ((k : ℕ) → k < K → room_of G m k < K) → K ≡ rows_for G m K
  rows_last before = rows_is K (omega arith) before (room_grows G m K)

  more : (n : ℕ) → ((k : ℕ) → k < n → room_of G m k < K) → room_of G m n < K → (k : ℕ) → k < n + 1 → room_of G m k < K
  more n before small k less = elim (cases_eq k n) [
    | inl is ↦ subst (λ (x : ℕ). room_of G m x < K) (sym is) small
    | inr other ↦ before k (omega arith)
  ]

  least_from : (steps n : ℕ) → n + steps ≡ K → ((k : ℕ) → k < n → room_of G m k < K) → (c : ℕ) → c < rows_for G m K → room_of G m c < K
  least_from zero n all before c less =
      let is = rows_is n (omega arith) before (let g = room_grows G m n in omega (arith, g)) in
      before c (omega (arith, is))
  least_from (suc steps) n all before c less = elim (cases_lt (room_of G m n) K) [
    | inl small ↦ least_from steps (n + 1) (omega arith) (more n before small) c less
    | inr big ↦ before c (let is = rows_is n (omega arith) before big in omega (arith, is))
  ]

  -- fewer rows are too few
  pub rows_least : (c : ℕ) → c < rows_for G m K → room_of G m c < K
  rows_least c less = least_from K 0 (omega arith) (λ k k_less. absurd (omega arith)) c less

  enough_from : (steps n : ℕ) → n + steps ≡ K → ((k : ℕ) → k < n → room_of G m k < K) → K ≤ room_of G m (rows_for G m K)
  enough_from zero n all before =
      let g = room_grows G m n in
      let fits : K ≤ room_of G m n = omega (arith, g) in
      subst (λ (x : ℕ). K ≤ room_of G m x) (rows_is n (omega arith) before fits) fits
  enough_from (suc steps) n all before = elim (cases_lt (room_of G m n) K) [
    | inl small ↦ enough_from steps (n + 1) (omega arith) (more n before small)
    | inr big ↦ subst (λ (x : ℕ). K ≤ room_of G m x) (rows_is n (omega arith) before big) big
  ]

  -- so many rows are enough
  pub rows_enough : K ≤ room_of G m (rows_for G m K)
  rows_enough = enough_from K 0 (omega arith) (λ k k_less. absurd (omega arith))

  -- there are no more rows than points
  pub rows_few : rows_for G m K ≤ K
  rows_few = elim (cases_lt K (rows_for G m K)) [
    | inl less ↦ let small = rows_least K less in let g = room_grows G m K in absurd (omega (arith, small, g))
    | inr few ↦ few
  ]

no_room : (G : Sheet) (m : ℕ) → room_of G m 0 ≡ 0
no_room Square m = omega arith
no_room (Strip width) m = omega arith

pub rows_some : (G : Sheet) (m K : ℕ) → 1 ≤ K → 1 ≤ rows_for G m K
rows_some G m K positive = elim (cases_lt (rows_for G m K) 1) [
  | inl none ↦
      let zero_rows : rows_for G m K ≡ 0 = omega arith in
      let fits : K ≤ room_of G m 0 = subst (λ (x : ℕ). K ≤ room_of G m x) zero_rows (rows_enough G m K) in
      absurd (omega (arith, fits, no_room G m))
  | inr is ↦ is
]

-- the side of few points
pub side_small : (m r : ℕ) → m ≤ most_distance → r ≤ most_leaves → m * (r - 1) ≤ most_side
side_small m r near few =
    let less : r - 1 ≤ 31 = omega arith in
    mul-le-mul near less

pub box_side_small : (G : Sheet) (m K : ℕ) → m ≤ most_distance → K ≤ most_leaves → box_side G m K ≤ most_side
box_side_small G m K near few = let r = rows_few G m K in side_small m (rows_for G m K) near (omega (arith, r))
