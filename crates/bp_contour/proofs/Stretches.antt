-- Longest stretches of numbers with a property: one of its ends gives the other, and each number with the property lies in one.
use Rattle.std.proofs.Common.{◌≡◌, ◌⊎◌, ℕ, zero, suc, ◌+◌, ◌-◌, ◌<◌, ◌≤◌, subst, sym, arith, inl, inr}
use Rattle.std.proofs.lemmas.Bool.{cases_eq, cases_order}
use Rattle.bp_regions.specs.Runs.{IsStretch}

module _ (P : ℕ → Type 0) where
  pub same_stop : (a b c : ℕ) → IsStretch P a b → IsStretch P a c → b ≡ c
  same_stop a b c s t = elim (cases_order b c) [
    | inl same ↦ same
    | inr (inl less) ↦ absurd (s.stop (t.all b (omega (arith, s.some)) less))
    | inr (inr more) ↦ absurd (t.stop (s.all c (omega (arith, t.some)) more))
  ]

  pub same_start : (a b c : ℕ) → IsStretch P a c → IsStretch P b c → a ≡ b
  same_start a b c s t = elim (cases_order a b) [
    | inl same ↦ same
    | inr (inl less) ↦
        absurd (t.start (omega (arith, less)) (s.all (b - 1) (omega (arith, less)) (omega (arith, less, t.some))))
    | inr (inr more) ↦
        absurd (s.start (omega (arith, more)) (t.all (a - 1) (omega (arith, more)) (omega (arith, more, s.some))))
  ]

  -- the property holds of one more
  one_more : (a b : ℕ) → ((k : ℕ) → a ≤ k → k < b → P k) → P b → (k : ℕ) → a ≤ k → k < b + 1 → P k
  one_more a b all here k from to = elim (cases_eq k b) [
    | inl same ↦ subst P (sym same) here
    | inr apart ↦ all k from (omega (arith, to, apart))
  ]

  one_less : (a b : ℕ) → ((k : ℕ) → suc a ≤ k → k < b → P k) → P a → (k : ℕ) → a ≤ k → k < b → P k
  one_less a b all here k from to = elim (cases_eq k a) [
    | inl same ↦ subst P (sym same) here
    | inr apart ↦ all k (omega (arith, from, apart)) to
  ]

  module _ (known : (k : ℕ) → P k ⊎ (P k → ⊥)) where
    up_from : (steps end a b : ℕ) → ((k : ℕ) → P k → k < end) → end ≤ b + steps → a < b → ((k : ℕ) → a ≤ k → k < b → P k) → (1 ≤ a → P (a - 1) → ⊥) → (c : ℕ) × IsStretch P a c
    up_from zero end a b bound near some all start =
        (b, record { some = some; all = all; start = start; stop = λ here. omega (arith, bound b here, near) })
    up_from (suc steps) end a b bound near some all start = elim (known b) [
      | inl here ↦
          up_from steps end a (b + 1) bound (omega (arith, near)) (omega (arith, some)) (one_more a b all here) start
      | inr not_here ↦ (b, record { some = some; all = all; start = start; stop = not_here })
    ]

    -- a stretch begins where the property holds and didn't before
    pub stretch_up : (end a : ℕ) → ((k : ℕ) → P k → k < end) → P a → (1 ≤ a → P (a - 1) → ⊥) → (c : ℕ) × IsStretch P a c
    stretch_up end a bound here start =
        up_from end end a (a + 1) bound (omega arith) (omega arith) (one_more a a (λ k from to. absurd (omega (arith, from, to))) here) start

    down_from : (a b : ℕ) → a < b → ((k : ℕ) → a ≤ k → k < b → P k) → (P b → ⊥) → (c : ℕ) × IsStretch P c b
    down_from zero b some all stop =
        (0, record { some = some; all = all; start = λ at. absurd (omega (arith, at)); stop = stop })
    down_from (suc a) b some all stop = elim (known a) [
      | inl here ↦ down_from a b (omega (arith, some)) (one_less a b all here) stop
      | inr not_here ↦ (
        suc a,
        record { some = some; all = all; start = λ at h. not_here (subst P (omega arith) h); stop = stop },
      )
    ]

    -- a stretch ends where the property held before and doesn't now
    pub stretch_down : (b : ℕ) → 1 ≤ b → P (b - 1) → (P b → ⊥) → (c : ℕ) × IsStretch P c b
    stretch_down b some here stop =
        down_from (b - 1) b (omega (arith, some)) (λ k from to. subst P (omega (arith, from, to)) here) stop
