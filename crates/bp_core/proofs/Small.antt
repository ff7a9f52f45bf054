-- The opening's side is a number of a document.
use Rattle.std.proofs.Common.{◌≡◌, inl, inr, ℕ, zero, suc, ◌+◌, ◌-◌, ◌*◌, ◌<◌, ◌≤◌, List, [], ◌∷◌, length, get_or, sym, subst, arith}
use Rattle.std.proofs.lemmas.Bool.{cases_eq, cases_lt}
use Rattle.bp_base.specs.declared.point.Point.{Point}
use Rattle.bp_base.specs.declared.point.Sheet.{Sheet}
use Rattle.bp_base.specs.declared.point.Sheet.TheVariants.{Square, Strip}
use Rattle.bp_base.specs.Limits.{most_number}
use Rattle.bp_base.specs.Point.{origin, point_at, gap}
use Rattle.bp_base.specs.Tree.{TreeValue, IsTree, leaf_count, leaf_node}
use Rattle.bp_metric.specs.Distance.{leaf_dist, most_distance}
use Rattle.bp_metric.specs.Opening.{IsFree, IsOpening, IsOpeningSide, IsWithin, Precedes, reach_on, side_of}
use Rattle.bp_metric.proofs.Distances.{dist_small}

-- a point that is m times the greatest distance away
abbrev away : Sheet → ℕ → Point
away Square m = record { x = most_distance * m; y = 0 }
away (Strip width) m = record { x = 0; y = most_distance * m }

away_within : (G : Sheet) (m : ℕ) → IsWithin G (away G m)
away_within Square m = tt
away_within (Strip width) m = omega arith

away_reach : (G : Sheet) (m : ℕ) → reach_on G (away G m) ≡ most_distance * m
away_reach Square m = omega arith
away_reach (Strip width) m = omega arith

away_far : (G : Sheet) (p : Point) (i m d : ℕ) → reach_on G p ≤ most_distance * i → i < m → d ≤ most_distance → d ≤ gap p (away G m)
away_far Square p i m d near less small =
    let far : most_distance * i + most_distance ≤ most_distance * m = omega (arith, less) in
    omega (arith, near, far, small)
away_far (Strip width) p i m d near less small =
    let far : most_distance * i + most_distance ≤ most_distance * m = omega (arith, less) in
    omega (arith, near, far, small)

further : (G : Sheet) (p r : Point) → reach_on G p < reach_on G r → Precedes G p r
further Square p r less = inl less
further (Strip width) p r less = inl less

module _ (T : TreeValue) (t : IsTree T) (G : Sheet) (P : List Point) (is : IsOpening T G P) where
  reaches_next : (k : ℕ) → suc k ≤ leaf_count T → ((i : ℕ) → 1 ≤ i → i ≤ k → reach_on G (point_at P i) ≤ most_distance * (i - 1)) → reach_on G (point_at P (suc k)) ≤ most_distance * (suc k - 1)
  reaches_next k within before = elim (cases_lt (reach_on G (away G k)) (reach_on G (point_at P (suc k)))) [
    | inl less ↦ absurd ((is.first (suc k) (omega arith, within)).least (away G k) (further G (away G k) (point_at P (suc k)) less) (away_within G k) free)
    | inr most ↦ omega (arith, most, away_reach G k)
  ]
    where
      free : IsFree T P (suc k) (away G k)
      free i above below =
          away_far G (point_at P i) (i - 1) k (leaf_dist T i (suc k)) (before i above (omega arith)) (omega arith) (dist_small T t (leaf_node T i) (leaf_node T (suc k)))

  -- each point is at most the greatest distance further out than those before it
  reaches : (k j : ℕ) → 1 ≤ j → j ≤ k → k ≤ leaf_count T → reach_on G (point_at P j) ≤ most_distance * (j - 1)
  reaches zero j from to within = absurd (omega arith)
  reaches (suc k) j from to within = elim (cases_eq j (suc k)) [
    | inr other ↦ reaches k j from (omega arith) (omega arith)
    | inl last ↦
        subst (λ (i : ℕ). reach_on G (point_at P i) ≤ most_distance * (i - 1)) (sym last) (reaches_next k within (λ i above below. reaches k i above below (omega arith)))
  ]

  side_at_most : (Q : List Point) (m : ℕ) → ((k : ℕ) → k < length Q → reach_on G (get_or Q k origin) ≤ m) → side_of G Q ≤ m
  side_at_most [] m each = omega arith
  side_at_most (p ∷ Q) m each = omega (arith, each 0 (omega arith), side_at_most Q m (λ k less. each (suc k) (omega arith)))

  pub side_small : side_of G P ≤ most_number
  side_small = side_at_most P most_number (λ k less.
      let place : k + 1 - 1 ≡ k = omega arith in
      let there = reaches (leaf_count T) (k + 1) (omega arith) (omega (arith, is.each, less)) (omega arith) in
      let few = t.leaves_few in
      let here : reach_on G (get_or P k origin) ≤ most_distance * (k + 1 - 1) = subst (λ (i : ℕ). reach_on G (get_or P i origin) ≤ most_distance * (k + 1 - 1)) place there in
      omega (arith, here, few, is.each, less))

pub opening_small : (T : TreeValue) → IsTree T → (G : Sheet) (u : ℕ) → IsOpeningSide T G u → u ≤ most_number
opening_small T t G u side = omega (arith, side.is_side, side_small T t G side.opening side.is_opening)
