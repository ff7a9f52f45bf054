-- A tree has an opening packing.
use Rattle.std.proofs.Common.{◌≡◌, ◌⊎◌, inl, inr, ℕ, zero, suc, ◌+◌, ◌*◌, ◌<◌, ◌≤◌, max, List, [], ◌∷◌, ◌++◌, length, refl, sym, subst, arith}
use Rattle.std.proofs.lemmas.Bool.{cases_eq, cases_lt, cases_order}
use Rattle.std.proofs.lemmas.List.{length_push}
use Rattle.bp_base.specs.declared.point.Point.{Point}
use Rattle.bp_base.specs.declared.point.Sheet.{Sheet}
use Rattle.bp_base.specs.declared.point.Sheet.TheVariants.{Square, Strip}
use Rattle.bp_base.specs.Limits.{most_leaves}
use Rattle.bp_base.specs.Tree.{TreeValue, IsTree, leaf_count}
use Rattle.bp_base.specs.Point.{point_at, gap}
use Rattle.bp_metric.specs.Distance.{leaf_dist, most_distance}
use Rattle.bp_metric.specs.Metric.{IsSheet}
use Rattle.bp_metric.specs.Opening.{Precedes, IsWithin, IsOpening, reach_on}
use Rattle.bp_opening.specs.Sums.{next_leaf, beside, start_on, AtMost, CanStand, IsLeastInColumn, Takes}
use Rattle.bp_opening.proofs.Orders.{at_most-self, at_most_trans, at_most_reach}
use Rattle.bp_opening.proofs.Firsts.{at_xy, first_of_sums, more_columns, row_more, start_stands, start_reach}
use Rattle.bp_opening.proofs.Packing.{IsFront, front_none, front_push, front_whole}

abbrev Or_not : Type 0 → Type 0
Or_not A = A ⊎ (A → ⊥)

precedes_or_not : (G : Sheet) (p r : Point) → Or_not (Precedes G p r)
precedes_or_not Square p r = elim (cases_order (max p.x p.y) (max r.x r.y)) [
  | inr (inl less) ↦ inl (inl less)
  | inr (inr more) ↦ inr (λ h. grind arith)
  | inl same ↦ elim (cases_order p.x r.x) [
    | inr (inl less) ↦ inl (inr (same, inl less))
    | inr (inr more) ↦ inr (λ h. grind arith)
    | inl also ↦ elim (cases_lt p.y r.y) [
      | inl less ↦ inl (inr (same, inr (also, less)))
      | inr more ↦ inr (λ h. grind arith)
    ]
  ]
]
precedes_or_not (Strip width) p r = elim (cases_order p.y r.y) [
  | inr (inl less) ↦ inl (inl less)
  | inr (inr more) ↦ inr (λ h. grind arith)
  | inl same ↦ elim (cases_lt p.x r.x) [
    | inl less ↦ inl (inr (same, less))
    | inr more ↦ inr (λ h. grind arith)
  ]
]

within_or_not : (G : Sheet) (p : Point) → Or_not (IsWithin G p)
within_or_not Square p = inl tt
within_or_not (Strip width) p = elim (cases_lt width p.x) [ inl more ↦ inr (λ h. omega arith) | inr le ↦ inl le ]

module _ (T : TreeValue) (G : Sheet) (P : List Point) where
  -- free of the first n leaves
  free_or_not : (k n : ℕ) (p : Point) → Or_not ((j : ℕ) → 1 ≤ j → j < n → leaf_dist T j k ≤ gap (point_at P j) p)
  free_or_not k zero p = inl (λ j from to. absurd (omega arith))
  free_or_not k (suc n) p = elim (free_or_not k n p) [
    | inr near ↦ inr (λ h. near (λ j from to. h j from (omega arith)))
    | inl before ↦ elim (cases_eq n 0) [
      | inl none ↦ inl (λ j from to. absurd (omega arith))
      | inr some ↦ elim (cases_lt (gap (point_at P n) p) (leaf_dist T n k)) [
        | inl less ↦ inr (λ h. let far = h n (omega (arith, some)) (omega arith) in omega (arith, far, less))
        | inr far ↦ inl (λ j from to. elim (cases_eq j n) [
          | inl last ↦ subst (λ (i : ℕ). leaf_dist T i k ≤ gap (point_at P i) p) (sym last) far
          | inr other ↦ before j from (omega arith)
        ])
      ]
    ]
  ]

  stands_or_not : (p : Point) → Or_not (CanStand T G P p)
  stands_or_not p = elim (within_or_not G p) [
    | inr off ↦ inr (λ h. off h.within)
    | inl on ↦ elim (free_or_not (next_leaf P) (next_leaf P) p) [
      | inr near ↦ inr (λ h. near h.free)
      | inl free ↦ inl (record { within = on; free = free })
    ]
  ]

  -- the better of two points
  record Better (best p : Point) : Type 0 where
    pub point : Point
    pub stands : CanStand T G P point
    pub either : Takes T G P best p point

  better : (best p : Point) → CanStand T G P best → Better best p
  better best p stands = elim (precedes_or_not G p best) [
    | inr later ↦ record { point = best; stands = stands; either = inr (refl, λ h before. later before) }
    | inl before ↦ elim (stands_or_not p) [
      | inr off ↦ record { point = best; stands = stands; either = inr (refl, λ h _. off h) }
      | inl here ↦ record { point = p; stands = here; either = inl (refl, before) }
    ]
  ]

  -- the best point of the first n rows of a column
  record Column (start : Point) (x n : ℕ) : Type 0 where
    pub point : Point
    pub stands : CanStand T G P point
    pub no_later : AtMost G point start
    pub least : IsLeastInColumn T G P x point n

  column : (start : Point) (x n : ℕ) → CanStand T G P start → Column start x n
  column start x zero stands = record { point = start; stands = stands; no_later = at_most-self G start; least = λ b row. absurd (omega arith) }
  column start x (suc n) stands =
      let before = column start x n stands in
      let here : Point = at_xy x (beside T P n).y in
      let new = better before.point here before.stands in
      let more = row_more T G P start before.point new.point x n before.no_later before.least new.either in
      record { point = new.point; stands = new.stands; no_later = more.0; least = λ b row. more.1 b (omega arith) }

  record Columns (start : Point) (n : ℕ) : Type 0 where
    pub point : Point
    pub stands : CanStand T G P point
    pub no_later : AtMost G point start
    pub least : (a : ℕ) → a < n → IsLeastInColumn T G P (beside T P a).x point (length P + 1)

  columns : (start : Point) (n : ℕ) → CanStand T G P start → Columns start n
  columns start zero stands = record { point = start; stands = stands; no_later = at_most-self G start; least = λ a less. absurd (omega arith) }
  columns start (suc n) stands =
      let before = columns start n stands in
      let new = column before.point (beside T P n).x (length P + 1) before.stands in
      record {
        point = new.point;
        stands = new.stands;
        no_later = at_most_trans G new.point before.point start new.no_later before.no_later;
        least = λ a less. more_columns T G P before.point new.point n before.least new.no_later new.least a (omega arith);
      }

-- the first n points of an opening
record Front (T : TreeValue) (G : Sheet) (n : ℕ) : Type 0 where
  pub points : List Point
  pub side : ℕ
  pub each : length points ≡ n
  pub front : IsFront T G points side

front_of : (T : TreeValue) → IsTree T → (G : Sheet) → IsSheet G → (n : ℕ) → n ≤ most_leaves → Front T G n
front_of T t G sheet zero few = record { points = []; side = 0; each = refl; front = front_none T G [] refl }
front_of T t G sheet (suc n) few =
    let before = front_of T t G sheet n (omega arith) in
    let P = before.points in
    let start = start_on G (length P) in
    let found = columns T G P start (length P + 1) (start_stands T t G P before.front.near) in
    let p = found.point in
    let reach : reach_on G p ≤ most_distance * length P = omega (arith, at_most_reach G p start found.no_later, start_reach G (length P)) in
    record {
      points = P ++ p ∷ [];
      side = max (reach_on G p) before.side;
      each = omega (arith, length_push P p, before.each);
      front = front_push T G P (P ++ p ∷ []) p before.side (max (reach_on G p) before.side) before.front (omega (arith, before.each)) sheet (first_of_sums T G P p found.stands found.least) reach refl refl;
    }

pub has_opening : (T : TreeValue) → IsTree T → (G : Sheet) → IsSheet G → (P : List Point) × IsOpening T G P
has_opening T t G sheet =
    let all = front_of T t G sheet (leaf_count T) t.leaves_few in
    (all.points, front_whole T G all.points all.side all.front all.each)
