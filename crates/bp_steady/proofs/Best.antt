-- The best near pair, from row to row, and that it is the next pair of a path.
use Rattle.std.proofs.Common.{inl, inr, ℕ, ◌+◌, ◌<◌, ◌≤◌, max, List, Option, None, Some, subst, arith}
use Rattle.std.proofs.lemmas.Bool.{cases_lt}
use Rattle.std.specs.Int.{abs_diff}
use Rattle.bp_base.specs.declared.path.Pair.{Pair}
use Rattle.bp_base.specs.declared.path.Step.{Step}
use Rattle.bp_base.specs.declared.point.Axis.TheVariants.{X, Y}
use Rattle.bp_base.specs.Path.{IsPairOf}
use Rattle.bp_base.specs.Tree.{TreeValue, IsTree, leaf_count}
use Rattle.bp_metric.specs.Chains.{HasPairsOf}
use Rattle.bp_metric.specs.Distance.{leaf_dist}
use Rattle.bp_metric.specs.Valid.{IsPair}
use Rattle.bp_steady.specs.Bounds.{BoundsValue, IsNear, IsNextPair, of_leaf}
use Rattle.bp_steady.specs.Searching.{AreFar, AreNear, IsPast, IsBest, IsFarthest, IsRow}
use Rattle.bp_steady.proofs.Blows.{is_blow, one_blow}

module _ (T : TreeValue) (row : List ℕ) where
  -- no pair stands between (i, 0) and (i, i + 1)
  pub row_begins : (i : ℕ) (best : Option Pair) → IsBest T row i 0 best → IsBest T row i (i + 1) best
  row_begins i None best = λ k l pair before near. best k l pair (earlier pair before) near
    where
      earlier : {k l : ℕ} → IsPair T k l → IsPast i (i + 1) k l → IsPast i 0 k l
      earlier pair (inl less) = inl less
      earlier pair (inr (same, less)) = absurd (omega (arith, pair.1, same, less))
  row_begins i (Some p) best = record {
    pair = best.pair;
    before = later best.before;
    near = best.near;
    most = λ k l pair before near. best.most k l pair (earlier pair before) near;
    first = best.first;
  }
    where
      later : IsPast i 0 p.i p.j → IsPast i (i + 1) p.i p.j
      later (inl less) = inl less
      later (inr (same, less)) = absurd (omega (arith, less))

      earlier : {k l : ℕ} → IsPair T k l → IsPast i (i + 1) k l → IsPast i 0 k l
      earlier pair (inl less) = inl less
      earlier pair (inr (same, less)) = absurd (omega (arith, pair.1, same, less))

  in_row : (i j k l : ℕ) → leaf_count T < j → IsPair T k l → IsPast (i + 1) 0 k l → IsPast i j k l
  in_row i j k l past pair (inl less) = elim (cases_lt k i) [
    | inl below ↦ inl below
    | inr above ↦ inr (omega (arith, less, above), omega (arith, past, pair.2))
  ]
  in_row i j k l past pair (inr (same, less)) = absurd (omega (arith, less))

  -- after the last pair of a row the next row begins
  pub row_ends : (i j : ℕ) (best : Option Pair) → leaf_count T < j → IsBest T row i j best → IsBest T row (i + 1) 0 best
  row_ends i j None past best = λ k l pair before near. best k l pair (in_row i j k l past pair before) near
  row_ends i j (Some p) past best = record {
    pair = best.pair;
    before = later best.before;
    near = best.near;
    most = λ k l pair before near. best.most k l pair (in_row i j k l past pair before) near;
    first = best.first;
  }
    where
      later : IsPast i j p.i p.j → IsPast (i + 1) 0 p.i p.j
      later (inl less) = inl (omega (arith, less))
      later (inr (same, less)) = inl (omega (arith, same))

-- where no pair is near, all are far
pub all_far : (T : TreeValue) (row : List ℕ) → IsBest T row (leaf_count T) 0 None → AreFar T (of_leaf row)
all_far T row best = λ i j pair. elim (cases_lt (max (abs_diff (of_leaf row X i) (of_leaf row X j)) (abs_diff (of_leaf row Y i) (of_leaf row Y j))) (leaf_dist T i j)) [
  | inl near ↦ absurd (best i j pair (inl (omega (arith, pair.1, pair.2))) near)
  | inr far ↦ far
]

module _ (T : TreeValue) (t : IsTree T) (path : List Step) (pairs : HasPairsOf (leaf_count T) path) (b : BoundsValue) (row : List ℕ) (is : IsRow T path b row) where
  first_leaf : (p : Pair) → IsPairOf (leaf_count T) p → (1 ≤ p.i) × (p.i ≤ leaf_count T)
  first_leaf p pair = (pair.0, omega (arith, pair.1, pair.2))

  second_leaf : (p : Pair) → IsPairOf (leaf_count T) p → (1 ≤ p.j) × (p.j ≤ leaf_count T)
  second_leaf p pair = (omega (arith, pair.0, pair.1), pair.2)

  near_by : (p : Pair) → IsPairOf (leaf_count T) p → IsNear T path b p → AreNear T row p.i p.j
  near_by p pair near =
      let a = one_blow T t path pairs b row is X p.i near.x_i (first_leaf p pair) near.is_x_i in
      let c = one_blow T t path pairs b row is X p.j near.x_j (second_leaf p pair) near.is_x_j in
      let d = one_blow T t path pairs b row is Y p.i near.y_i (first_leaf p pair) near.is_y_i in
      let e = one_blow T t path pairs b row is Y p.j near.y_j (second_leaf p pair) near.is_y_j in
      subst (λ (g : ℕ). g < leaf_dist T p.i p.j) (λ i. max (abs_diff (a i) (c i)) (abs_diff (d i) (e i))) near.near

  are_near : (p : Pair) → IsPairOf (leaf_count T) p → AreNear T row p.i p.j → IsNear T path b p
  are_near p pair near = record {
    x_i = of_leaf row X p.i;
    y_i = of_leaf row Y p.i;
    x_j = of_leaf row X p.j;
    y_j = of_leaf row Y p.j;
    is_x_i = is_blow T t path pairs b row is X p.i (first_leaf p pair);
    is_y_i = is_blow T t path pairs b row is Y p.i (first_leaf p pair);
    is_x_j = is_blow T t path pairs b row is X p.j (second_leaf p pair);
    is_y_j = is_blow T t path pairs b row is Y p.j (second_leaf p pair);
    near = near;
  }

  within : (p : Pair) → IsPairOf (leaf_count T) p → IsPast (leaf_count T) 0 p.i p.j
  within p pair = inl (omega (arith, pair.1, pair.2))

  pub is_next : (p : Pair) → IsFarthest T row (leaf_count T) 0 p → IsNextPair T path b p
  is_next p best = record {
    pair = best.pair;
    near = are_near p best.pair best.near;
    greatest = λ r pair near. best.most r.i r.j pair (within r pair) (near_by r pair near);
    least = λ r pair near same before. best.first r.i r.j pair (near_by r pair near) same before;
  }
