-- The order of points by (x + y, x, y).
use Rattle.std.proofs.Common.{◌≡◌, ◌⊎◌, ℕ, ◌+◌, ◌<◌, ◌≤◌, sym, arith, inl, inr}
use Rattle.std.proofs.lemmas.Bool.{cases_lt, cases_order}
use Rattle.bp_base.specs.declared.point.Point.{Point}
use Rattle.bp_base.specs.Point.{gap}
use Rattle.bp_symmetry.specs.Twins.{IsAfter}

-- the order on six numbers
abbrev After : ℕ → ℕ → ℕ → ℕ → Type 0
After x y u w = (u + w < x + y) ⊎ ((x + y ≡ u + w) × ((u < x) ⊎ ((x ≡ u) × (w < y))))

one_way : (x y u w : ℕ) → After x y u w → After u w x y → ⊥
one_way x y u w a b = grind arith

lower : (x y u w a b : ℕ) → After x y u w → (After x y a b → ⊥) → After u w a b → ⊥
lower x y u w a b first second third = second (grind arith)

pub after_one_way : (p r : Point) → IsAfter p r → IsAfter r p → ⊥
after_one_way p r = one_way p.x p.y r.x r.y

-- what stands before p, which doesn't stand after t, doesn't either
pub after_lower : (p r t : Point) → IsAfter p r → (IsAfter p t → ⊥) → IsAfter r t → ⊥
after_lower p r t = lower p.x p.y r.x r.y t.x t.y

after_cases : (x y u w : ℕ) → After x y u w ⊎ (After x y u w → ⊥)
after_cases x y u w = elim (cases_order (x + y) (u + w)) [
  | inr (inl less) ↦ inr (λ a. grind arith)
  | inr (inr more) ↦ inl (inl more)
  | inl same ↦ elim (cases_order x u) [
    | inr (inl less) ↦ inr (λ a. grind arith)
    | inr (inr more) ↦ inl (inr (same, inl more))
    | inl also ↦ elim (cases_lt w y) [ inl more ↦ inl (inr (same, inr (also, more))) | inr le ↦ inr (λ a. grind arith) ]
  ]
]

pub after_or_not : (p r : Point) → IsAfter p r ⊎ (IsAfter p r → ⊥)
after_or_not p r = after_cases p.x p.y r.x r.y

equal : (x y u w : ℕ) → (After x y u w → ⊥) → (After u w x y → ⊥) → (x ≡ u) × (y ≡ w)
equal x y u w first second = elim (cases_order (x + y) (u + w)) [
  | inr (inl less) ↦ absurd (second (inl less))
  | inr (inr more) ↦ absurd (first (inl more))
  | inl same ↦ elim (cases_order x u) [
    | inr (inl less) ↦ absurd (second (inr (sym same, inl less)))
    | inr (inr more) ↦ absurd (first (inr (same, inl more)))
    | inl also ↦ (also, omega (arith, same, also))
  ]
]

-- two points of which neither stands after the other are one
pub after_neither : (p r : Point) → (IsAfter p r → ⊥) → (IsAfter r p → ⊥) → p ≡ r
after_neither p r first second = let e = equal p.x p.y r.x r.y first second in λ k. record { x = e.0 k; y = e.1 k }

-- of two points that are d apart the one that doesn't stand after the other lies to its left or below it
pub left_or_below : (p r : Point) (d : ℕ) → (IsAfter p r → ⊥) → d ≤ gap p r → (p.x + d ≤ r.x) ⊎ (p.y + d ≤ r.y)
left_or_below p r d ordered far = elim (cases_lt (r.x + r.y) (p.x + p.y)) [
  | inl more ↦ absurd (ordered (inl more))
  | inr le ↦ elim (cases_lt r.x (p.x + d)) [
    | inr left ↦ inl left
    | inl not_left ↦ inr (omega (arith, le, not_left, far))
  ]
]
