-- The first free point has each coordinate 0 or a sum of an earlier coordinate and a distance.
use Rattle.std.proofs.Common.{◌≡◌, ◌⊎◌, inl, inr, ℕ, zero, suc, ◌+◌, ◌-◌, ◌*◌, ◌<◌, ◌≤◌, max, List, length, sym, ap, subst, ◌∙◌, arith, below_more}
use Rattle.std.proofs.lemmas.Bool.{cases_eq, cases_lt, ne_eqb}
use Rattle.std.specs.Int.{abs_diff}
use Rattle.bp_base.specs.declared.point.Point.{Point}
use Rattle.bp_base.specs.declared.point.Sheet.{Sheet}
use Rattle.bp_base.specs.declared.point.Sheet.TheVariants.{Square, Strip}
use Rattle.bp_base.specs.Tree.{TreeValue, IsTree, leaf_node}
use Rattle.bp_base.specs.Point.{point_at}
use Rattle.bp_metric.specs.Distance.{leaf_dist, most_distance}
use Rattle.bp_metric.specs.Opening.{Precedes, IsFree, IsFirst, reach_on}
use Rattle.bp_metric.proofs.Distances.{dist_small}
use Rattle.bp_opening.specs.Sums.{next_leaf, beside, start_on, AtMost, CanStand, IsLeastInColumn, AreNear, Takes}
use Rattle.bp_opening.proofs.Orders.{lower_precedes, within_lower, at_most_trans, at_most-self, at_most_from_precedes}

-- a value of f from 1 to n, or none of them
either : (f : ℕ → ℕ) (v n : ℕ) → ((a : ℕ) × (1 ≤ a) × (a ≤ n) × (v ≡ f a)) ⊎ ((a : ℕ) → 1 ≤ a → a ≤ n → v ≡ f a → ⊥)
either f v zero = inr (λ a from to is. omega arith)
either f v (suc n) = elim (cases_eq v (f (suc n))) [
  | inl same ↦ inl (suc n, omega arith, omega arith, same)
  | inr other ↦ elim (either f v n) [
    | inl (a, from, to, is) ↦ inl (a, from, omega arith, is)
    | inr none ↦ inr (λ a from to is. elim (cases_eq a (suc n)) [
      | inl last ↦ other (is ∙ ap f last)
      | inr before ↦ none a from (omega arith) is
    ])
  ]
]

-- one step down an axis
step_down : (c d v w : ℕ) → (suc v ≡ c + d → ⊥) → d ≤ max (abs_diff c (suc v)) w → d ≤ max (abs_diff c v) w
step_down c d v w other far = elim (cases_lt w d) [
  | inl less ↦ elim (cases_lt c (suc v)) [ inl below ↦ omega arith | inr above ↦ omega arith ]
  | inr le ↦ omega arith
]

step_down_right : (c d v w : ℕ) → (suc v ≡ c + d → ⊥) → d ≤ max w (abs_diff c (suc v)) → d ≤ max w (abs_diff c v)
step_down_right c d v w other far = elim (cases_lt w d) [
  | inl less ↦ elim (cases_lt c (suc v)) [ inl below ↦ omega arith | inr above ↦ omega arith ]
  | inr le ↦ omega arith
]

abbrev pub at_xy : ℕ → ℕ → Point
at_xy x y = record { x = x; y = y }

module _ (T : TreeValue) (G : Sheet) (P : List Point) where
  abbrev Free : ℕ → ℕ → Type 0
  Free x y = IsFree T P (next_leaf P) (at_xy x y)

  beside-x : (a : ℕ) → 1 ≤ a → (beside T P a).x ≡ (point_at P a).x + leaf_dist T a (next_leaf P)
  beside-x a from = rw (ne_eqb a 0 (omega arith))

  beside-y : (a : ℕ) → 1 ≤ a → (beside T P a).y ≡ (point_at P a).y + leaf_dist T a (next_leaf P)
  beside-y a from = rw (ne_eqb a 0 (omega arith))

  descend_x : (x y : ℕ) → Free x y → (a : ℕ) × (a ≤ length P) × ((beside T P a).x ≤ x) × Free (beside T P a).x y
  descend_x zero y free = (0, omega arith, omega arith, free)
  descend_x (suc x) y free = elim (either (λ a. (beside T P a).x) (suc x) (length P)) [
    | inl (a, from, to, is) ↦ (a, to, omega (arith, is), subst (λ v. Free v y) is free)
    | inr none ↦
        let left : Free x y = λ j from to. step_down (point_at P j).x (leaf_dist T j (next_leaf P)) x (abs_diff (point_at P j).y y) (λ is. none j from (omega arith) (is ∙ sym (beside-x j from))) (free j from to) in
        let found = descend_x x y left in
        (found.0, found.1, omega (arith, found.2), found.3)
  ]

  descend_y : (x y : ℕ) → Free x y → (a : ℕ) × (a ≤ length P) × ((beside T P a).y ≤ y) × Free x (beside T P a).y
  descend_y x zero free = (0, omega arith, omega arith, free)
  descend_y x (suc y) free = elim (either (λ a. (beside T P a).y) (suc y) (length P)) [
    | inl (a, from, to, is) ↦ (a, to, omega (arith, is), subst (λ v. Free x v) is free)
    | inr none ↦
        let down : Free x y = λ j from to. step_down_right (point_at P j).y (leaf_dist T j (next_leaf P)) y (abs_diff (point_at P j).x x) (λ is. none j from (omega arith) (is ∙ sym (beside-y j from))) (free j from to) in
        let found = descend_y x y down in
        (found.0, found.1, omega (arith, found.2), found.3)
  ]

  -- the least of the sums that fit is the first of all points that fit
  pub first_of_sums : (p : Point) → CanStand T G P p → ((a : ℕ) → a < length P + 1 → IsLeastInColumn T G P (beside T P a).x p (length P + 1)) → IsFirst T G P (next_leaf P) p
  first_of_sums p stands columns = record {
    within = stands.within;
    free = stands.free;
    least = λ r before r_within r_free.
        let column = descend_x r.x r.y r_free in
        let row = descend_y (beside T P column.0).x r.y column.3 in
        let here : Point = at_xy (beside T P column.0).x (beside T P row.0).y in
        columns column.0 (omega (arith, column.1)) row.0 (omega (arith, row.1)) (record { within = within_lower G r here column.2 r_within; free = row.3 }) (lower_precedes G r p here column.2 row.2 before);
  }

  -- a column more
  pub more_columns : (old new : Point) (n : ℕ) → ((a : ℕ) → a < n → IsLeastInColumn T G P (beside T P a).x old (length P + 1)) → AtMost G new old → IsLeastInColumn T G P (beside T P n).x new (length P + 1) → (a : ℕ) → a < n + 1 → IsLeastInColumn T G P (beside T P a).x new (length P + 1)
  more_columns old new n before no_later here = below_more (λ a. IsLeastInColumn T G P (beside T P a).x new (length P + 1)) n
      (λ a less b row stands. at_most_trans G new old (at_xy (beside T P a).x (beside T P b).y) no_later (before a less b row stands)) here

  -- a row more
  row_taken : (old : Point) (x n : ℕ) → IsLeastInColumn T G P x old n → Precedes G (at_xy x (beside T P n).y) old → IsLeastInColumn T G P x (at_xy x (beside T P n).y) (n + 1)
  row_taken old x n before less = below_more (λ b. CanStand T G P (at_xy x (beside T P b).y) → AtMost G (at_xy x (beside T P n).y) (at_xy x (beside T P b).y)) n
      (λ b row stands. at_most_trans G (at_xy x (beside T P n).y) old (at_xy x (beside T P b).y) (at_most_from_precedes G (at_xy x (beside T P n).y) old less) (before b row stands)) (λ stands. at_most-self G (at_xy x (beside T P n).y))

  row_passed : (old : Point) (x n : ℕ) → IsLeastInColumn T G P x old n → (CanStand T G P (at_xy x (beside T P n).y) → Precedes G (at_xy x (beside T P n).y) old → ⊥) → IsLeastInColumn T G P x old (n + 1)
  row_passed old x n before here = below_more (λ b. CanStand T G P (at_xy x (beside T P b).y) → AtMost G old (at_xy x (beside T P b).y)) n before here

  pub row_more : (start old new : Point) (x n : ℕ) → AtMost G old start → IsLeastInColumn T G P x old n → Takes T G P old (at_xy x (beside T P n).y) new → AtMost G new start × IsLeastInColumn T G P x new (n + 1)
  row_more start old new x n so_far before (inl (is, less)) = subst (λ p. AtMost G p start × IsLeastInColumn T G P x p (n + 1)) (sym is)
      (at_most_trans G (at_xy x (beside T P n).y) old start (at_most_from_precedes G (at_xy x (beside T P n).y) old less) so_far, row_taken old x n before less)
  row_more start old new x n so_far before (inr (is, stays)) = subst (λ p. AtMost G p start × IsLeastInColumn T G P x p (n + 1)) (sym is)
      (so_far, row_passed old x n before stays)

-- far out all is free
pub start_stands : (T : TreeValue) → IsTree T → (G : Sheet) (P : List Point) → AreNear G P → CanStand T G P (start_on G (length P))
start_stands T t Square P near = record {
  within = tt;
  free = λ j from to.
      let close = near.near j from (omega arith) in
      let small = dist_small T t (leaf_node T j) (leaf_node T (next_leaf P)) in
      let left : (point_at P j).x ≤ most_distance * (j - 1) = omega (arith, close) in
      omega (arith, left, small);
}
start_stands T t (Strip width) P near = record {
  within = omega arith;
  free = λ j from to.
      let close = near.near j from (omega arith) in
      let small = dist_small T t (leaf_node T j) (leaf_node T (next_leaf P)) in
      omega (arith, close, small);
}

pub start_reach : (G : Sheet) (n : ℕ) → reach_on G (start_on G n) ≤ most_distance * n
start_reach Square n = omega arith
start_reach (Strip width) n = omega arith
