-- The least leaf of a row that makes up a coordinate.
use Rattle.std.proofs.Common.{◌≡◌, ℕ, ◌+◌, ◌<◌, ◌≤◌, ◌⊎◌, List, length, get_or, Option, Some, None, sym, ◌∙◌, ap, subst, arith, inl, inr}
use Rattle.std.specs.Prelude.{MatchOption}
use Rattle.std.proofs.lemmas.Bool.{cases_eq}
use Rattle.bp_base.specs.declared.point.Axis.{Axis}
use Rattle.bp_base.specs.declared.path.Step.{Step}
use Rattle.bp_base.specs.Tree.{TreeValue}
use Rattle.bp_metric.specs.Chains.{Places}
use Rattle.bp_metric.specs.Distance.{leaf_dist}
use Rattle.bp_warm.specs.Raising.{low_in, IsRowBefore}

abbrev pub Makes : TreeValue → List ℕ → ℕ → ℕ → Type 0
Makes T row leaf p = low_in row p + leaf_dist T p leaf ≡ low_in row leaf

-- the best of the first k leaves of the list
abbrev pub IsBest : TreeValue → List ℕ → ℕ → List ℕ → Option ℕ → ℕ → Type 0
IsBest T row leaf befores None k = (j : ℕ) → j < k → Makes T row leaf (get_or befores j 0) → ⊥
IsBest T row leaf befores (Some p) k =
    ((j : ℕ) × (j < k) × (get_or befores j 0 ≡ p))
    × Makes T row leaf p
    × ((j : ℕ) → j < k → Makes T row leaf (get_or befores j 0) → p ≤ get_or befores j 0)

module _ (T : TreeValue) (row : List ℕ) (leaf : ℕ) (befores : List ℕ) (k : ℕ) where
  abbrev here : ℕ
  here = get_or befores k 0

  pub best_more : (best new : Option ℕ) → IsBest T row leaf befores best k → MatchOption new ((best ≡ None) × (Makes T row leaf here → ⊥)) (λ p. 1 ≤ 1) → MatchOption new (1 ≤ 1) (λ p. (best ≡ Some p) ⊎ ((p ≡ here) × Makes T row leaf here)) → MatchOption new (1 ≤ 1) (λ p. Makes T row leaf here → p ≤ here) → MatchOption best (1 ≤ 1) (λ q. MatchOption new ⊥ (λ p. p ≤ q)) → IsBest T row leaf befores new (k + 1)
  best_more None None is none some before best = λ j less makes. elim (cases_eq j k) [
    | inl last ↦ none.1 (subst (λ (i : ℕ). Makes T row leaf (get_or befores i 0)) last makes)
    | inr early ↦ is j (omega arith) makes
  ]
  best_more (Some q) None is none some before best = absurd best
  best_more None (Some p) is none some before best = elim some [
    | inl old ↦ absurd (cc)
    | inr new ↦ (
      (k, omega arith, sym new.0),
      subst (Makes T row leaf) (sym new.0) new.1,
      λ j less makes. elim (cases_eq j k) [
        | inl last ↦ omega (arith, new.0, ap (λ (i : ℕ). get_or befores i 0) last)
        | inr early ↦ absurd (is j (omega arith) makes)
      ],
    )
  ]
  best_more (Some q) (Some p) is none some before best =
      let least : (j : ℕ) → j < k + 1 → Makes T row leaf (get_or befores j 0) → p ≤ get_or befores j 0 =
      λ j less makes. elim (cases_eq j k) [
        | inl last ↦ omega (arith, before (subst (λ (i : ℕ). Makes T row leaf (get_or befores i 0)) last makes), ap (λ (i : ℕ). get_or befores i 0) last)
        | inr early ↦ omega (arith, best, is.2 j (omega arith) makes)
      ] in
      elim some [
        | inl old ↦
            let e : q ≡ p = cc in
            ((is.0.0, omega (arith, is.0.1), is.0.2 ∙ e), subst (Makes T row leaf) e is.1, least)
        | inr new ↦ ((k, omega arith, sym new.0), subst (Makes T row leaf) (sym new.0) new.1, least)
      ]

-- the best of all is what is asked for
module _ (T : TreeValue) (path : List Step) (axis : Axis) (row : List ℕ) (leaf : ℕ) (befores : List ℕ) (rows : IsRowBefore path axis leaf befores) (k : ℕ) (all : length befores ≤ k) where
  pub best_none : (best : Option ℕ) → IsBest T row leaf befores best k → MatchOption best ((a : ℕ) → Places path axis a leaf → Makes T row leaf a → ⊥) (λ p. 1 ≤ 1)
  best_none None is = λ a placed makes.
      let r = rows.all a placed in
      is r.0 (omega (arith, r.1)) (subst (Makes T row leaf) (sym r.2) makes)
  best_none (Some p) is = omega arith

  pub best_some : k ≤ length befores → (best : Option ℕ) → IsBest T row leaf befores best k → MatchOption best (1 ≤ 1) (λ p. Places path axis p leaf × Makes T row leaf p)
  best_some within None is = omega arith
  best_some within (Some p) is =
      (subst (λ (i : ℕ). Places path axis i leaf) is.0.2 (rows.places is.0.0 (omega (arith, is.0.1))), is.1)

  pub best_least : (best : Option ℕ) → IsBest T row leaf befores best k → MatchOption best (1 ≤ 1) (λ p. (c : ℕ) → c < p → Places path axis c leaf → Makes T row leaf c → ⊥)
  best_least None is = omega arith
  best_least (Some p) is = λ c less placed makes.
      let r = rows.all c placed in
      absurd (omega (arith, is.2 r.0 (omega (arith, r.1)) (subst (Makes T row leaf) (sym r.2) makes), r.2))
