-- Numbers of pairs rise in the order of pairs.
use Rattle.std.proofs.Common.{◌≡◌, ◌⊎◌, inl, inr, ℕ, zero, suc, ◌+◌, ◌-◌, ◌*◌, ◌/◌, ◌<◌, ◌≤◌, ◌↔◌, sym, ap, arith}
use Rattle.std.proofs.lemmas.Bool.{cases_eq, cases_lt, cases_order}
use Rattle.bp_base.specs.declared.path.Pair.{Pair}
use Rattle.bp_base.specs.Path.{IsPairOf}
use Rattle.bp_metric.specs.Next.{IsEarlier}
use Rattle.bp_pairs.specs.Numbers.{pairs_before, pair_number, pair_count}

-- with a = i - 1 and k = n - i
next_row : (a k : ℕ) → (a + 1) * (a + 2 * k) ≡ a * (a + 1 + 2 * k) + 2 * k
next_row a k = omega arith

halves : (x y k : ℕ) → y ≡ x + 2 * k → y / 2 ≡ x / 2 + k
halves x y k is = omega (arith, is)

-- leaf i begins n - i pairs
pub before_next : (n i : ℕ) → 1 ≤ i → i ≤ n → pairs_before n (i + 1) ≡ pairs_before n i + (n - i)
before_next n i from to =
    let left : (i + 1 - 1) * (2 * n - (i + 1)) ≡ (i - 1 + 1) * (i - 1 + 2 * (n - i)) = (let a : i + 1 - 1 ≡ i - 1 + 1 = omega arith in let b : 2 * n - (i + 1) ≡ i - 1 + 2 * (n - i) = omega arith in rw (a, b)) in
    let right : (i - 1) * (2 * n - i) ≡ (i - 1) * (i - 1 + 1 + 2 * (n - i)) = (let b : 2 * n - i ≡ i - 1 + 1 + 2 * (n - i) = omega arith in rw b) in
    halves ((i - 1) * (2 * n - i)) ((i + 1 - 1) * (2 * n - (i + 1))) (n - i) (omega (arith, left, right, next_row (i - 1) (n - i)))

before_later : (n i k : ℕ) → 1 ≤ i → i + 1 + k ≤ n → pairs_before n i + (n - i) ≤ pairs_before n (i + 1 + k)
before_later n i zero from to =
    let e : i + 1 + 0 ≡ i + 1 = omega arith in
    rw e (omega (arith, before_next n i from (omega arith)))
before_later n i (suc k) from to =
    let e : i + 1 + suc k ≡ i + 1 + k + 1 = omega arith in
    let ih = before_later n i k from (omega arith) in
    let step = before_next n (i + 1 + k) (omega arith) (omega arith) in
    rw e (omega (arith, ih, step))

pub before_rises : (n i k : ℕ) → 1 ≤ i → i < k → k ≤ n → pairs_before n i + (n - i) ≤ pairs_before n k
before_rises n i k from less to =
    let e : k ≡ i + 1 + (k - i - 1) = omega arith in
    rw e (before_later n i (k - i - 1) from (omega arith))

pub before_all : (n : ℕ) → pairs_before n n ≡ pair_count n
before_all n = let e : (n - 1) * (2 * n - n) ≡ n * (n - 1) = (let b : 2 * n - n ≡ n = omega arith in rw b (omega arith)) in rw e

pub before_none : (n : ℕ) → pairs_before n 1 ≡ 0
before_none n = omega arith

pub number_below : (n : ℕ) (p : Pair) → IsPairOf n p → pair_number n p < pair_count n
number_below n p is =
    omega (arith, is.0, is.1, is.2, before_rises n p.i n is.0 (omega (arith, is.1, is.2)) (omega arith), before_all n)

earlier_less : (n : ℕ) (p r : Pair) → IsPairOf n p → IsPairOf n r → IsEarlier p r → pair_number n p < pair_number n r
earlier_less n p r p_pair r_pair (inl less) =
    omega (arith, p_pair.0, p_pair.1, p_pair.2, before_rises n p.i r.i p_pair.0 less (omega (arith, r_pair.1, r_pair.2)))
earlier_less n p r p_pair r_pair (inr (same, less)) =
    omega (arith, ap (pairs_before n) same, same, less, p_pair.1, r_pair.1)

-- two pairs are one, or one of them stands earlier
pub pairs_ordered : (p r : Pair) → (p ≡ r) ⊎ (IsEarlier p r ⊎ IsEarlier r p)
pairs_ordered p r = elim (cases_order p.i r.i) [
  | inr (inl less) ↦ inr (inl (inl less))
  | inr (inr more) ↦ inr (inr (inl more))
  | inl same ↦ elim (cases_order p.j r.j) [
    | inl also ↦ inl (λ k. record { i = same k; j = also k })
    | inr (inl less) ↦ inr (inl (inr (same, less)))
    | inr (inr more) ↦ inr (inr (inr (sym same, more)))
  ]
]

less_earlier : (n : ℕ) (p r : Pair) → IsPairOf n p → IsPairOf n r → pair_number n p < pair_number n r → IsEarlier p r
less_earlier n p r p_pair r_pair less = elim (pairs_ordered p r) [
  | inl same ↦ absurd (omega (arith, ap (pair_number n) same, less))
  | inr (inl earlier) ↦ earlier
  | inr (inr later) ↦ absurd (omega (arith, earlier_less n r p r_pair p_pair later, less))
]

pub numbers_rise : (n : ℕ) (p r : Pair) → IsPairOf n p → IsPairOf n r → (IsEarlier p r ↔ (pair_number n p < pair_number n r))
numbers_rise n p r p_pair r_pair = (earlier_less n p r p_pair r_pair, less_earlier n p r p_pair r_pair)

pub one_pair : (n : ℕ) (p r : Pair) → IsPairOf n p → IsPairOf n r → pair_number n p ≡ pair_number n r → p ≡ r
one_pair n p r p_pair r_pair same = elim (pairs_ordered p r) [
  | inl is ↦ is
  | inr (inl earlier) ↦ absurd (omega (arith, earlier_less n p r p_pair r_pair earlier, same))
  | inr (inr later) ↦ absurd (omega (arith, earlier_less n r p r_pair p_pair later, same))
]

-- the row i, where so many numbers are left
pub record IsRow (n number i left : ℕ) : Type 0 where
  pub from : 1 ≤ i
  pub to : i < n
  pub is : pairs_before n i + left ≡ number

pub first_row : (n number : ℕ) → number < pair_count n → IsRow n number 1 number
first_row n number below =
    record { from = omega arith; to = elim (cases_order 1 n) [ inr (inl more) ↦ more | inl one ↦ absurd (omega (arith, below, ap pair_count (sym one))) | inr (inr none) ↦ absurd (let e : n ≡ 0 = omega arith in omega (arith, below, ap pair_count e)) ]; is = omega (arith, before_none n) }

pub next_row_is : (n number i left : ℕ) → number < pair_count n → IsRow n number i left → n - i ≤ left → IsRow n number (i + 1) (left - (n - i))
next_row_is n number i left below row more =
    let step = before_next n i row.from (omega (arith, row.to)) in
    record {
      from = omega arith;
      to = elim (cases_eq (i + 1) n) [
        | inl last ↦ absurd (omega (arith, ap (pairs_before n) last, step, before_all n, row.is, below, more))
        | inr other ↦ omega (arith, row.to, other)
      ];
      is = omega (arith, step, row.is, more);
    }

pub row_pair : (n number i left : ℕ) → IsRow n number i left → left < n - i → IsPairOf n (record { i = i; j = i + 1 + left })
row_pair n number i left row less = (row.from, omega arith, omega (arith, row.to))

pub row_number : (n number i left : ℕ) → IsRow n number i left → pair_number n (record { i = i; j = i + 1 + left }) ≡ number
row_number n number i left row = omega (arith, row.is)

find_pair : (steps n number i left : ℕ) → number < pair_count n → IsRow n number i left → n - i ≤ steps → (p : Pair) × IsPairOf n p × (pair_number n p ≡ number)
find_pair zero n number i left below row few = absurd (omega (arith, row.to, few))
find_pair (suc steps) n number i left below row few = elim (cases_lt left (n - i)) [
  | inl less ↦ (record { i = i; j = i + 1 + left }, row_pair n number i left row less, row_number n number i left row)
  | inr more ↦ find_pair steps n number (i + 1) (left - (n - i)) below (next_row_is n number i left below row more) (omega (arith, few))
]

-- each number below the count is that of a pair
pub pair_of_number : (n number : ℕ) → number < pair_count n → (p : Pair) × IsPairOf n p × (pair_number n p ≡ number)
pair_of_number n number below = find_pair (n - 1) n number 1 number below (first_row n number below) (omega arith)
