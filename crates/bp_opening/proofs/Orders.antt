-- Laws of the order of points.
use Rattle.std.proofs.Common.{◌≡◌, ◌⊎◌, inl, inr, ℕ, ◌<◌, ◌≤◌, max, arith}
use Rattle.std.proofs.lemmas.Bool.{cases_lt, cases_order}
use Rattle.std.proofs.Common.{sym}
use Rattle.bp_base.specs.declared.point.Point.{Point}
use Rattle.bp_base.specs.declared.point.Sheet.{Sheet}
use Rattle.bp_base.specs.declared.point.Sheet.TheVariants.{Square, Strip}
use Rattle.bp_metric.specs.Opening.{Precedes, IsWithin, reach_on}
use Rattle.bp_opening.specs.Sums.{AtMost}

-- the order of a square over plain numbers
abbrev Lex : ℕ → ℕ → ℕ → ℕ → ℕ → ℕ → Type 0
Lex m x y n u v = (m < n) ⊎ ((m ≡ n) × ((x < u) ⊎ ((x ≡ u) × (y < v))))

lex_between : (m x y n u v o a b : ℕ) → Lex m x y n u v → Lex m x y o a b ⊎ Lex o a b n u v
lex_between m x y n u v o a b h = grind arith

lex_lower : (x y n u v a b : ℕ) → a ≤ x → b ≤ y → Lex (max x y) x y n u v → Lex (max a b) a b n u v
lex_lower x y n u v a b xs ys h = grind arith

lex_not_back : (m x y n u v : ℕ) → Lex m x y n u v → Lex n u v m x y → ⊥
lex_not_back m x y n u v h back = grind arith

-- the order of a strip
abbrev Lex_2 : ℕ → ℕ → ℕ → ℕ → Type 0
Lex_2 y x v u = (y < v) ⊎ ((y ≡ v) × (x < u))

lex_2_between : (y x v u b a : ℕ) → Lex_2 y x v u → Lex_2 y x b a ⊎ Lex_2 b a v u
lex_2_between y x v u b a h = grind arith

lex_2_lower : (y x v u b a : ℕ) → a ≤ x → b ≤ y → Lex_2 y x v u → Lex_2 b a v u
lex_2_lower y x v u b a xs ys h = grind arith

lex_2_not_back : (y x v u : ℕ) → Lex_2 y x v u → Lex_2 v u y x → ⊥
lex_2_not_back y x v u h back = grind arith

pub precedes_between : (G : Sheet) (p r q : Point) → Precedes G p r → Precedes G p q ⊎ Precedes G q r
precedes_between Square p r q h = lex_between (max p.x p.y) p.x p.y (max r.x r.y) r.x r.y (max q.x q.y) q.x q.y h
precedes_between (Strip width) p r q h = lex_2_between p.y p.x r.y r.x q.y q.x h

pub lower_precedes : (G : Sheet) (r p q : Point) → q.x ≤ r.x → q.y ≤ r.y → Precedes G r p → Precedes G q p
lower_precedes Square r p q xs ys h = lex_lower r.x r.y (max p.x p.y) p.x p.y q.x q.y xs ys h
lower_precedes (Strip width) r p q xs ys h = lex_2_lower r.y r.x p.y p.x q.y q.x xs ys h

pub at_most_from_precedes : (G : Sheet) (p r : Point) → Precedes G p r → AtMost G p r
at_most_from_precedes Square p r h = lex_not_back (max p.x p.y) p.x p.y (max r.x r.y) r.x r.y h
at_most_from_precedes (Strip width) p r h = lex_2_not_back p.y p.x r.y r.x h

pub at_most-self : (G : Sheet) (p : Point) → AtMost G p p
at_most-self G p h = at_most_from_precedes G p p h h

pub at_most_trans : (G : Sheet) (p q r : Point) → AtMost G p q → AtMost G q r → AtMost G p r
at_most_trans G p q r pq qr back = elim (precedes_between G r p q back) [ inl h ↦ qr h | inr h ↦ pq h ]

pub at_most_reach : (G : Sheet) (p r : Point) → AtMost G p r → reach_on G p ≤ reach_on G r
at_most_reach Square p r h = elim (cases_lt (max r.x r.y) (max p.x p.y)) [ inl less ↦ absurd (h (inl less)) | inr le ↦ le ]
at_most_reach (Strip width) p r h = elim (cases_lt r.y p.y) [ inl less ↦ absurd (h (inl less)) | inr le ↦ le ]

pub within_lower : (G : Sheet) (r q : Point) → q.x ≤ r.x → IsWithin G r → IsWithin G q
within_lower Square r q xs h = tt
within_lower (Strip width) r q xs h = omega (arith, xs, h)

-- two points of which neither precedes the other are one
pub one_point : (G : Sheet) (p r : Point) → AtMost G p r → AtMost G r p → p ≡ r
one_point Square p r not_after not_before = elim (cases_order (max p.x p.y) (max r.x r.y)) [
  | inr (inl less) ↦ absurd (not_before (inl less))
  | inr (inr more) ↦ absurd (not_after (inl more))
  | inl same ↦ elim (cases_order p.x r.x) [
    | inr (inl less) ↦ absurd (not_before (inr (same, inl less)))
    | inr (inr more) ↦ absurd (not_after (inr (sym same, inl more)))
    | inl x_same ↦ elim (cases_order p.y r.y) [
      | inr (inl less) ↦ absurd (not_before (inr (same, inr (x_same, less))))
      | inr (inr more) ↦ absurd (not_after (inr (sym same, inr (sym x_same, more))))
      | inl y_same ↦ λ i. record { x = x_same i; y = y_same i }
    ]
  ]
]
one_point (Strip width) p r not_after not_before = elim (cases_order p.y r.y) [
  | inr (inl less) ↦ absurd (not_before (inl less))
  | inr (inr more) ↦ absurd (not_after (inl more))
  | inl y_same ↦ elim (cases_order p.x r.x) [
    | inr (inl less) ↦ absurd (not_before (inr (y_same, less)))
    | inr (inr more) ↦ absurd (not_after (inr (sym y_same, more)))
    | inl x_same ↦ λ i. record { x = x_same i; y = y_same i }
  ]
]
