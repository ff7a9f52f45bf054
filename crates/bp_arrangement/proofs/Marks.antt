-- Where the bounds of codes lie: a greater code no nearer, and a code greater by 2d lies d steps of the coarse grid farther.
use Rattle.std.proofs.Common.{◌≡◌, ℕ, ◌+◌, ◌*◌, ◌/◌, ◌%◌, ◌<◌, ◌≤◌, ap, arith, inl, inr}
use Rattle.std.proofs.Math.Nat.{mul-add, mul-le-mul_left}
use Rattle.std.proofs.lemmas.Bool.{cases_lt}
use Rattle.bp_arrangement.specs.Facts.{mark}

pub mark_le : (q a b : ℕ) → 1 ≤ q → a ≤ b → mark q a ≤ mark q b
unfolding mark
mark_le q a b finer less = elim (cases_lt (a / 2) (b / 2)) [
  | inl nearer ↦
      let steps : q * (a / 2 + 1) ≤ q * (b / 2) = mul-le-mul_left q (omega (arith, nearer)) in
      omega (arith, steps, mul-add q (a / 2) 1, finer)
  | inr not ↦
      let same : a / 2 ≡ b / 2 = omega (arith, not, less) in
      omega (arith, ap (λ (k : ℕ). q * k) same, same, less)
]

pub mark_shift : (q a d : ℕ) → mark q (a + 2 * d) ≡ mark q a + q * d
unfolding mark
mark_shift q a d =
    let half : (a + 2 * d) / 2 ≡ a / 2 + d = omega arith in
    let odd : (a + 2 * d) % 2 ≡ a % 2 = omega arith in
    omega (arith, ap (λ (k : ℕ). q * k) half, mul-add q (a / 2) d, odd)

pub mark_zero : (q : ℕ) → mark q 0 ≡ 0
unfolding mark
mark_zero q = omega arith

-- the code of `K`, and of one step behind it
pub mark_even : (q k : ℕ) → mark q (2 * k) ≡ q * k
mark_even q k =
    let same : 2 * k ≡ 0 + 2 * k = omega arith in
    omega (arith, ap (mark q) same, mark_shift q 0 k, mark_zero q)

mark_one : (q : ℕ) → mark q 1 ≡ 1
unfolding mark
mark_one q = omega arith

pub mark_odd : (q k : ℕ) → mark q (2 * k + 1) ≡ q * k + 1
mark_odd q k =
    let same : 2 * k + 1 ≡ 1 + 2 * k = omega arith in
    omega (arith, ap (mark q) same, mark_shift q 1 k, mark_one q)

-- on a grid that is at least twice as fine no two codes lie at one place
pub mark_less : (q a b : ℕ) → 2 ≤ q → a < b → mark q a < mark q b
unfolding mark
mark_less q a b finer less = elim (cases_lt (a / 2) (b / 2)) [
  | inl nearer ↦
      let steps : q * (a / 2 + 1) ≤ q * (b / 2) = mul-le-mul_left q (omega (arith, nearer)) in
      omega (arith, steps, mul-add q (a / 2) 1, finer)
  | inr not ↦
      let same : a / 2 ≡ b / 2 = omega (arith, not, less) in
      omega (arith, ap (λ (k : ℕ). q * k) same, same, less)
]
