-- A tree has one opening packing.
use Rattle.std.proofs.Common.{◌≡◌, inl, inr, ℕ, zero, suc, ◌+◌, ◌-◌, ◌<◌, ◌≤◌, List, get_or, sym, ◌∙◌, subst, arith}
use Rattle.std.proofs.lemmas.Bool.{cases_eq}
use Rattle.std.proofs.lemmas.List.{ext_get_or}
use Rattle.bp_base.specs.declared.point.Point.{Point}
use Rattle.bp_base.specs.declared.point.Sheet.{Sheet}
use Rattle.bp_base.specs.Tree.{TreeValue, leaf_count}
use Rattle.bp_base.specs.Point.{origin, point_at, gap}
use Rattle.bp_metric.specs.Distance.{leaf_dist}
use Rattle.bp_metric.specs.Opening.{IsFree, IsOpening}
use Rattle.bp_opening.proofs.Orders.{one_point}

module _ (T : TreeValue) (G : Sheet) where
  free_as : (P Q : List Point) (k : ℕ) → ((j : ℕ) → 1 ≤ j → j < k → point_at P j ≡ point_at Q j) → (p : Point) → IsFree T P k p → IsFree T Q k p
  free_as P Q k same p free j from to = subst (λ r. leaf_dist T j k ≤ gap r p) (same j from to) (free j from to)

  same_points : (P Q : List Point) → IsOpening T G P → IsOpening T G Q → (k : ℕ) → k ≤ leaf_count T + 1 → (j : ℕ) → 1 ≤ j → j < k → point_at P j ≡ point_at Q j
  same_points P Q p q zero within j from to = absurd (omega arith)
  same_points P Q p q (suc k) within j from to = elim (cases_eq j k) [
    | inr other ↦ same_points P Q p q k (omega arith) j from (omega arith)
    | inl last ↦
        let before = same_points P Q p q k (omega arith) in
        let back : (i : ℕ) → 1 ≤ i → i < k → point_at Q i ≡ point_at P i = λ i f t. sym (before i f t) in
        let mine = p.first k (omega arith, omega arith) in
        let other = q.first k (omega arith, omega arith) in
        let one : point_at P k ≡ point_at Q k = one_point G (point_at P k) (point_at Q k)
        (λ later. mine.least (point_at Q k) later other.within (free_as Q P k back (point_at Q k) other.free))
        (λ earlier. other.least (point_at P k) earlier mine.within (free_as P Q k before (point_at P k) mine.free)) in
        subst (λ (i : ℕ). point_at P i ≡ point_at Q i) (sym last) one
  ]

  pub one_opening : (P Q : List Point) → IsOpening T G P → IsOpening T G Q → P ≡ Q
  one_opening P Q p q = ext_get_or origin P Q (p.each ∙ sym q.each) (λ i less.
      let place : i + 1 - 1 ≡ i = omega arith in
      let h = same_points P Q p q (leaf_count T + 1) (omega arith) (i + 1) (omega arith) (omega (arith, p.each)) in
      subst (λ (k : ℕ). get_or P k origin ≡ get_or Q k origin) place h)
