-- Bounds on single coordinates: the least coordinates of a path under them, when they fail, the next pair, and the tree of paths
-- that a search under them has.
use Rattle.std.specs.Prelude.{◌≡◌, ◌⊎◌, ℕ, ◌+◌, ◌-◌, ◌*◌, ◌<◌, ◌≤◌, max, List, [], ◌∷◌, ◌++◌, slice_index}
use Rattle.std.specs.Int.{abs_diff}
use Rattle.bp_base.specs.declared.point.Axis.{Axis}
use Rattle.bp_base.specs.declared.point.Axis.TheVariants.{X, Y}
use Rattle.bp_base.specs.declared.path.Choice.{Choice}
use Rattle.bp_base.specs.declared.path.Pair.{Pair}
use Rattle.bp_base.specs.declared.path.Step.{Step}
use Rattle.bp_base.specs.Path.{IsPairOf}
use Rattle.bp_base.specs.Tree.{TreeValue, IsLeaf, leaf_count}
use Rattle.bp_metric.specs.Chains.{IsChain, HasCycle, chain_weight, first_of, last_of}
use Rattle.bp_metric.specs.Distance.{leaf_dist}
use Rattle.bp_metric.specs.Next.{IsEarlier}

-- a low and a high number for each coordinate, in the order x_1, y_1, x_2, y_2, ..
pub record BoundsValue : Type 0 where
  pub low : List ℕ
  pub high : List ℕ

-- where the coordinate of leaf i stands in that order
abbrev pub place : Axis → ℕ → ℕ
place X i = 2 * (i - 1)
place Y i = 2 * (i - 1) + 1

-- the coordinate of leaf i in a list of all coordinates
abbrev pub of_leaf : List ℕ → Axis → ℕ → ℕ
of_leaf row axis i = slice_index row (place axis i)

abbrev pub low_of : BoundsValue → Axis → ℕ → ℕ
low_of b axis i = of_leaf b.low axis i

abbrev pub high_of : BoundsValue → Axis → ℕ → ℕ
high_of b axis i = of_leaf b.high axis i

-- v is the greatest value of the low number of a leaf and the weight of a chain from that leaf to leaf i
pub record IsBlow (T : TreeValue) (path : List Step) (b : BoundsValue) (axis : Axis) (i v : ℕ) : Type 0 where
  pub chain : List ℕ
  pub is_chain : IsChain (leaf_count T) path axis chain
  pub ends : last_of chain ≡ i
  pub weighs : low_of b axis (first_of chain) + chain_weight T chain ≡ v
  pub most :
      (other : List ℕ)
      → IsChain (leaf_count T) path axis other
      → last_of other ≡ i
      → low_of b axis (first_of other) + chain_weight T other ≤ v

-- the least coordinate of some leaf is above its high number
pub record IsAbove (T : TreeValue) (path : List Step) (b : BoundsValue) : Type 0 where
  pub axis : Axis
  pub i : ℕ
  pub leaf : IsLeaf T i
  pub v : ℕ
  pub is : IsBlow T path b axis i v
  pub above : high_of b axis i < v

-- the path has a cycle, or some least coordinate is above its high number
abbrev pub Fails : TreeValue → List Step → BoundsValue → Type 0
Fails T path b = HasCycle (leaf_count T) path ⊎ IsAbove T path b

-- the pair's least points are less than its distance apart
pub record IsNear (T : TreeValue) (path : List Step) (b : BoundsValue) (p : Pair) : Type 0 where
  pub x_i : ℕ
  pub y_i : ℕ
  pub x_j : ℕ
  pub y_j : ℕ
  pub is_x_i : IsBlow T path b X p.i x_i
  pub is_y_i : IsBlow T path b Y p.i y_i
  pub is_x_j : IsBlow T path b X p.j x_j
  pub is_y_j : IsBlow T path b Y p.j y_j
  pub near : max (abs_diff x_i x_j) (abs_diff y_i y_j) < leaf_dist T p.i p.j

-- the near pair of greatest distance, and of the least number on ties
pub record IsNextPair (T : TreeValue) (path : List Step) (b : BoundsValue) (p : Pair) : Type 0 where
  pub pair : IsPairOf (leaf_count T) p
  pub near : IsNear T path b p
  pub greatest : (r : Pair) → IsPairOf (leaf_count T) r → IsNear T path b r → leaf_dist T r.i r.j ≤ leaf_dist T p.i p.j
  pub least :
      (r : Pair)
      → IsPairOf (leaf_count T) r
      → IsNear T path b r
      → leaf_dist T r.i r.j ≡ leaf_dist T p.i p.j
      → IsEarlier r p
      → ⊥

-- The tree of the bounds: the empty path and, with each path that doesn't fail and has a next pair, the path extended by that pair
-- and each of the four choices.
pub data IsInTree (T : TreeValue) (b : BoundsValue) : List Step → Type 0 where
  root : IsInTree T b []
  child :
      {path : List Step} → IsInTree T b path
      → (Fails T path b → ⊥)
      → (pair : Pair)
      → IsNextPair T path b pair
      → (choice : Choice)
      → IsInTree T b (path ++ (record { pair = pair; choice = choice }) ∷ [])
