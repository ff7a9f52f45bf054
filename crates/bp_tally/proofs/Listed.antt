-- The list of pairs has all pairs, and each once.
use Rattle.std.proofs.Common.{◌≡◌, ℕ, zero, suc, ◌+◌, ◌*◌, ◌≤◌, [], ◌∷◌, length, refl, sym, ap, subst, arith, inl, inr, length-append}
use Rattle.std.specs.List.{Contains}
use Rattle.std.proofs.Math.Nat.{mul-suc, suc-mul}
use Rattle.std.proofs.lemmas.Bool.{cases_lt}
use Rattle.std.proofs.lemmas.List.Elements.{Contains-append_cases, Contains-append_left, Contains-append_right}
use Rattle.bp_base.specs.declared.path.Pair.{Pair}
use Rattle.bp_base.specs.Path.{IsPairOf}
use Rattle.bp_tally.specs.Pairs.{pairs_of, pairs_with}

abbrev pair_of : ℕ → ℕ → Pair
pair_of i j = record { i = i; j = j }

pub few_with : (j i : ℕ) → length (pairs_with j i) ≡ i
few_with j zero = refl
few_with j (suc i) = omega (arith, few_with j i)

pub once : (n : ℕ) → n + 2 * length (pairs_of n) ≡ n * n
once zero = refl
once (suc n) = omega (arith, length-append (pairs_with (n + 1) n) (pairs_of n), few_with (n + 1) n, once n, suc-mul n (suc n), mul-suc n n)

first_one : (p q : Pair) → p ≡ q → Contains (p ∷ []) q
first_one p q same = (0, omega arith, same)

alone : (p q : Pair) → Contains (p ∷ []) q → p ≡ q
alone p q (zero, less, is) = is
alone p q (suc k, less, is) = absurd (omega (arith, less))

with_each : (j i k : ℕ) → 1 ≤ k → k ≤ i → Contains (pairs_with j i) (pair_of k j)
with_each j zero k some most = absurd (omega (arith, some, most))
with_each j (suc i) k some most = elim (cases_lt k (i + 1)) [
  | inl less ↦ Contains-append_right (pair_of (i + 1) j ∷ []) (pairs_with j i) (pair_of k j) (with_each j i k some (omega (arith, less)))
  | inr from ↦
      let same : i + 1 ≡ k = omega (arith, from, most) in
      Contains-append_left (pair_of (i + 1) j ∷ []) (pairs_with j i) (pair_of k j) (first_one (pair_of (i + 1) j) (pair_of k j) (ap (λ (m : ℕ). pair_of m j) same))
]

with_only : (j i : ℕ) (p : Pair) → Contains (pairs_with j i) p → (1 ≤ p.i) × (p.i ≤ i) × (p.j ≡ j)
with_only j zero p has = absurd (omega (arith, has.1))
with_only j (suc i) p has = elim (Contains-append_cases (pair_of (i + 1) j ∷ []) (pairs_with j i) p has) [
  | inl here ↦
      let same = alone (pair_of (i + 1) j) p here in
      let first : i + 1 ≡ p.i = ap (λ (q : Pair). q.i) same in
      (omega (arith, first), omega (arith, first), sym (ap (λ (q : Pair). q.j) same))
  | inr later ↦ let h = with_only j i p later in (h.0, omega (arith, h.1), h.2)
]

pub each : (n : ℕ) (p : Pair) → IsPairOf n p → Contains (pairs_of n) p
each zero p is = absurd (omega (arith, is.0, is.1, is.2))
each (suc n) p is = elim (cases_lt n p.j) [
  | inl last ↦
      let same : n + 1 ≡ p.j = omega (arith, last, is.2) in
      let has : Contains (pairs_with (n + 1) n) (pair_of p.i (n + 1)) = with_each (n + 1) n p.i is.0 (omega (arith, same, is.1)) in
      Contains-append_left (pairs_with (n + 1) n) (pairs_of n) p (subst (λ (j : ℕ). Contains (pairs_with (n + 1) n) (pair_of p.i j)) same has)
  | inr most ↦ Contains-append_right (pairs_with (n + 1) n) (pairs_of n) p (each n p (is.0, is.1, most))
]

pub only : (n : ℕ) (p : Pair) → Contains (pairs_of n) p → IsPairOf n p
only zero p has = absurd (omega (arith, has.1))
only (suc n) p has = elim (Contains-append_cases (pairs_with (n + 1) n) (pairs_of n) p has) [
  | inl here ↦ let h = with_only (n + 1) n p here in (h.0, omega (arith, h.1, h.2), omega (arith, h.2))
  | inr later ↦ let h = only n p later in (h.0, h.1, omega (arith, h.2))
]
