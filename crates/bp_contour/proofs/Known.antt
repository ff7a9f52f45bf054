-- Whether a region holds a cell is known.
use Rattle.std.proofs.Common.{◌⊎◌, ℕ, zero, suc, ◌+◌, ◌≤◌, List, IsTrue, sym, ◌∙◌, subst, arith, inl, inr}
use Rattle.std.proofs.lemmas.Bool.{cases_Bool, cases_eq, cases_lt, false≢true}
use Rattle.bp_base.specs.declared.point.Point.{Point}
use Rattle.bp_base.specs.Point.{point_at}
use Rattle.bp_base.specs.Tree.{TreeValue, leaf_count}
use Rattle.bp_metric.specs.Distance.{leaf_below, radius}
use Rattle.bp_regions.specs.Cells.{IsInBall, Reach}

known_le : (a b : ℕ) → (a ≤ b) ⊎ (a ≤ b → ⊥)
known_le a b = elim (cases_lt b a) [ inl less ↦ inr (λ h. omega (arith, h, less)) | inr more ↦ inl more ]

pub known_ball : (p : Point) (r x y : ℕ) → IsInBall p r x y ⊎ (IsInBall p r x y → ⊥)
known_ball p r x y = elim (known_le p.x (x + r)) [
  | inr off ↦ inr (λ h. off h.0)
  | inl a ↦ elim (known_le (x + 1) (p.x + r)) [
    | inr off ↦ inr (λ h. off h.1)
    | inl b ↦ elim (known_le p.y (y + r)) [
      | inr off ↦ inr (λ h. off h.2)
      | inl c ↦ elim (known_le (y + 1) (p.y + r)) [
        | inr off ↦ inr (λ h. off h.3)
        | inl d ↦ inl (a, b, c, d)
      ]
    ]
  ]
]

module _ (T : TreeValue) (S : ℕ) (P : List Point) (e x y : ℕ) where
  record IsNear (leaf : ℕ) : Type 0 where
    pub below : IsTrue (leaf_below T leaf e)
    pub near : IsInBall (point_at P leaf) (radius T leaf e) x y

  known_near : (leaf : ℕ) → IsNear leaf ⊎ (IsNear leaf → ⊥)
  known_near leaf = elim (cases_Bool (leaf_below T leaf e)) [
    | inr off ↦ inr (λ h. false≢true (sym off ∙ h.below))
    | inl below ↦ elim (known_ball (point_at P leaf) (radius T leaf e) x y) [
      | inr far ↦ inr (λ h. far h.near)
      | inl near ↦ inl (record { below = below; near = near })
    ]
  ]

  known_upto : (n : ℕ) → ((leaf : ℕ) × (1 ≤ leaf) × (leaf ≤ n) × IsNear leaf) ⊎ ((leaf : ℕ) → 1 ≤ leaf → leaf ≤ n → IsNear leaf → ⊥)
  known_upto zero = inr (λ leaf some few near. omega (arith, some, few))
  known_upto (suc n) = elim (known_near (suc n)) [
    | inl near ↦ inl (suc n, omega arith, omega arith, near)
    | inr far ↦ elim (known_upto n) [
      | inl (leaf, some, few, near) ↦ inl (leaf, some, omega (arith, few), near)
      | inr none ↦ inr (λ leaf some few near. elim (cases_eq leaf (suc n)) [
        | inl same ↦ far (subst IsNear same near)
        | inr apart ↦ none leaf some (omega (arith, few, apart)) near
      ])
    ]
  ]

  pub known_reach : Reach T S P e x y ⊎ (Reach T S P e x y → ⊥)
  known_reach = elim (cases_lt x S) [
    | inr off ↦ inr (λ r. omega (arith, r.cell.0, off))
    | inl column ↦ elim (cases_lt y S) [
      | inr off ↦ inr (λ r. omega (arith, r.cell.1, off))
      | inl row ↦ elim (known_upto (leaf_count T)) [
        | inl (leaf, some, few, near) ↦ inl (record {
          cell = (column, row);
          leaf = leaf;
          among = (some, few);
          below = near.below;
          near = near.near;
        })
        | inr none ↦
            inr (λ r. none r.leaf r.among.0 r.among.1 (record { below = r.below; near = r.near }))
      ]
    ]
  ]
