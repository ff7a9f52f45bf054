-- The best near pair, from row to row, and that it is the next pair of a path.
use Rattle.std.proofs.Common.{◌≡◌, inl, inr, ℕ, ◌+◌, ◌<◌, ◌≤◌, max, List, Option, None, Some, subst, arith}
use Rattle.std.proofs.lemmas.Bool.{cases_lt}
use Rattle.std.specs.Int.{abs_diff}
use Rattle.bp_base.specs.declared.path.Pair.{Pair}
use Rattle.bp_base.specs.declared.path.Step.{Step}
use Rattle.bp_base.specs.declared.point.Axis.TheVariants.{X, Y}
use Rattle.bp_base.specs.declared.point.Sheet.{Sheet}
use Rattle.bp_base.specs.declared.record.Least.{Least}
use Rattle.bp_base.specs.Path.{IsPairOf}
use Rattle.bp_base.specs.Tree.{TreeValue, leaf_count}
use Rattle.bp_metric.specs.Distance.{leaf_dist}
use Rattle.bp_metric.specs.Coordinates.{IsLeast, IsLow}
use Rattle.bp_metric.specs.Next.{IsNear, IsNext}
use Rattle.bp_metric.specs.Valid.{IsPair}
use Rattle.bp_metric.proofs.Lows.{one_low}
use Rattle.bp_branch.specs.Nearest.{AreNear, IsPast, IsBest, of_leaf}

module _ (T : TreeValue) (xs ys : List ℕ) where
  -- no pair stands between (i, 0) and (i, i + 1)
  pub row_begins : (i : ℕ) (best : Option Pair) → IsBest T xs ys i 0 best → IsBest T xs ys i (i + 1) best
  row_begins i None best = λ k l pair before near. best k l pair (earlier pair before) near
    where
      earlier : {k l : ℕ} → IsPair T k l → IsPast i (i + 1) k l → IsPast i 0 k l
      earlier pair (inl less) = inl less
      earlier pair (inr (same, less)) = absurd (omega (arith, pair.1, same, less))
  row_begins i (Some p) best = record {
    pair = best.pair;
    before = later best.before;
    near = best.near;
    most = λ k l pair before near. best.most k l pair (earlier pair before) near;
    first = best.first;
  }
    where
      later : IsPast i 0 p.i p.j → IsPast i (i + 1) p.i p.j
      later (inl less) = inl less
      later (inr (same, less)) = absurd (omega (arith, less))

      earlier : {k l : ℕ} → IsPair T k l → IsPast i (i + 1) k l → IsPast i 0 k l
      earlier pair (inl less) = inl less
      earlier pair (inr (same, less)) = absurd (omega (arith, pair.1, same, less))

  in_row : (i j k l : ℕ) → leaf_count T < j → IsPair T k l → IsPast (i + 1) 0 k l → IsPast i j k l
  in_row i j k l past pair (inl less) = elim (cases_lt k i) [
    | inl below ↦ inl below
    | inr above ↦ inr (omega (arith, less, above), omega (arith, past, pair.2))
  ]
  in_row i j k l past pair (inr (same, less)) = absurd (omega (arith, less))

  -- after the last pair of a row the next row begins
  pub row_ends : (i j : ℕ) (best : Option Pair) → leaf_count T < j → IsBest T xs ys i j best → IsBest T xs ys (i + 1) 0 best
  row_ends i j None past best = λ k l pair before near. best k l pair (in_row i j k l past pair before) near
  row_ends i j (Some p) past best = record {
    pair = best.pair;
    before = later best.before;
    near = best.near;
    most = λ k l pair before near. best.most k l pair (in_row i j k l past pair before) near;
    first = best.first;
  }
    where
      later : IsPast i j p.i p.j → IsPast (i + 1) 0 p.i p.j
      later (inl less) = inl (omega (arith, less))
      later (inr (same, less)) = inl (omega (arith, same))

module _ (T : TreeValue) (G : Sheet) (path : List Step) (found : Least) (least : IsLeast T G path found) where
  low_x : (i v : ℕ) → (1 ≤ i) × (i ≤ leaf_count T) → IsLow T path X i v → v ≡ of_leaf found.xs i
  low_x i v leaf low = one_low T path X i v (of_leaf found.xs i) low (least.xs i leaf)

  low_y : (i v : ℕ) → (1 ≤ i) × (i ≤ leaf_count T) → IsLow T path Y i v → v ≡ of_leaf found.ys i
  low_y i v leaf low = one_low T path Y i v (of_leaf found.ys i) low (least.ys i leaf)

  first_leaf : (p : Pair) → IsPairOf (leaf_count T) p → (1 ≤ p.i) × (p.i ≤ leaf_count T)
  first_leaf p pair = (pair.0, omega (arith, pair.1, pair.2))

  second_leaf : (p : Pair) → IsPairOf (leaf_count T) p → (1 ≤ p.j) × (p.j ≤ leaf_count T)
  second_leaf p pair = (omega (arith, pair.0, pair.1), pair.2)

  near_by : (p : Pair) → IsPairOf (leaf_count T) p → IsNear T path p → AreNear T found.xs found.ys p.i p.j
  near_by p pair near =
      let a = low_x p.i near.x_i (first_leaf p pair) near.is_x_i in
      let b = low_x p.j near.x_j (second_leaf p pair) near.is_x_j in
      let c = low_y p.i near.y_i (first_leaf p pair) near.is_y_i in
      let d = low_y p.j near.y_j (second_leaf p pair) near.is_y_j in
      subst (λ (g : ℕ). g < leaf_dist T p.i p.j) (λ i. max (abs_diff (a i) (b i)) (abs_diff (c i) (d i))) near.near

  are_near : (p : Pair) → IsPairOf (leaf_count T) p → AreNear T found.xs found.ys p.i p.j → IsNear T path p
  are_near p pair near = record {
    x_i = of_leaf found.xs p.i;
    y_i = of_leaf found.ys p.i;
    x_j = of_leaf found.xs p.j;
    y_j = of_leaf found.ys p.j;
    is_x_i = least.xs p.i (first_leaf p pair);
    is_y_i = least.ys p.i (first_leaf p pair);
    is_x_j = least.xs p.j (second_leaf p pair);
    is_y_j = least.ys p.j (second_leaf p pair);
    near = near;
  }

  within : (p : Pair) → IsPairOf (leaf_count T) p → IsPast (leaf_count T) 0 p.i p.j
  within p pair = inl (omega (arith, pair.1, pair.2))

  pub is_next : (best : Option Pair) → IsBest T found.xs found.ys (leaf_count T) 0 best → IsNext T path best
  is_next None best = λ p pair near. best p.i p.j pair (within p pair) (near_by p pair near)
  is_next (Some p) best = record {
    pair = best.pair;
    near = are_near p best.pair best.near;
    greatest = λ r pair near. best.most r.i r.j pair (within r pair) (near_by r pair near);
    least = λ r pair near same before. best.first r.i r.j pair (near_by r pair near) same before;
  }
