-- The next pair of a path: among the pairs whose low points are too near, that of the greatest distance, of the least number on ties.
use Rattle.std.specs.Prelude.{◌≡◌, ◌⊎◌, ℕ, ◌<◌, ◌≤◌, max, List, Option, None, Some}
use Rattle.std.specs.Int.{abs_diff}
use Rattle.bp_base.specs.declared.point.Axis.TheVariants.{X, Y}
use Rattle.bp_base.specs.declared.path.Pair.{Pair}
use Rattle.bp_base.specs.declared.path.Step.{Step}
use Rattle.bp_base.specs.Path.{IsPairOf}
use Rattle.bp_base.specs.Tree.{TreeValue, leaf_count}
use Rattle.bp_metric.specs.Distance.{leaf_dist}
use Rattle.bp_metric.specs.Coordinates.{IsLow}

-- the pair's low points are less than its distance apart
pub record IsNear (T : TreeValue) (path : List Step) (p : Pair) : Type 0 where
  pub x_i : ℕ
  pub y_i : ℕ
  pub x_j : ℕ
  pub y_j : ℕ
  pub is_x_i : IsLow T path X p.i x_i
  pub is_y_i : IsLow T path Y p.i y_i
  pub is_x_j : IsLow T path X p.j x_j
  pub is_y_j : IsLow T path Y p.j y_j
  pub near : max (abs_diff x_i x_j) (abs_diff y_i y_j) < leaf_dist T p.i p.j

-- r has a lesser number than p: pairs are numbered in the order (1,2), (1,3), up to (n-1,n)
abbrev pub IsEarlier : Pair → Pair → Type 0
IsEarlier r p = (r.i < p.i) ⊎ ((r.i ≡ p.i) × (r.j < p.j))

pub record IsNextPair (T : TreeValue) (path : List Step) (p : Pair) : Type 0 where
  pub pair : IsPairOf (leaf_count T) p
  pub near : IsNear T path p
  pub greatest : (r : Pair) → IsPairOf (leaf_count T) r → IsNear T path r → leaf_dist T r.i r.j ≤ leaf_dist T p.i p.j
  pub least :
      (r : Pair)
      → IsPairOf (leaf_count T) r
      → IsNear T path r
      → leaf_dist T r.i r.j ≡ leaf_dist T p.i p.j
      → IsEarlier r p
      → ⊥

-- the next pair, or none where no pair is too near
abbrev pub IsNext : TreeValue → List Step → Option Pair → Type 0
IsNext T path None = (p : Pair) → IsPairOf (leaf_count T) p → IsNear T path p → ⊥
IsNext T path (Some p) = IsNextPair T path p
