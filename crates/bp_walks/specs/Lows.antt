-- Tables of one number for each leaf, at the leaf's number.
use Rattle.std.specs.Prelude.{◌≡◌, ◌⊎◌, ℕ, ◌+◌, ◌*◌, ◌≤◌, List, slice_index, length}
use Rattle.bp_base.specs.declared.point.Axis.{Axis}
use Rattle.bp_base.specs.declared.path.Step.{Step}
use Rattle.bp_base.specs.Tree.{TreeValue, IsLeaf, leaf_count}
use Rattle.bp_metric.specs.Distance.{leaf_dist, most_distance}
use Rattle.bp_metric.specs.Chains.{Places, IsChain, first_of, last_of}
use Rattle.bp_metric.specs.Coordinates.{IsLow, AreShown}

-- a number for each of 32 leaves; that at 0 is not used
abbrev pub places : ℕ
places = 33

-- no number of a table is greater, however its leaves are gone over
abbrev pub most_low : ℕ
most_low = most_distance * places

-- each leaf's number meets each step that places a leaf before it, and some step makes it up or it is 0
pub record IsLowTable (T : TreeValue) (path : List Step) (axis : Axis) (lows : List ℕ) : Type 0 where
  pub each : length lows ≡ places
  pub small : (i : ℕ) → slice_index lows i ≤ most_low
  pub meets : (a b : ℕ) → Places path axis a b → slice_index lows a + leaf_dist T a b ≤ slice_index lows b
  pub made_up :
      (i : ℕ)
      → IsLeaf T i
      → (slice_index lows i ≡ 0)
      ⊎ ((p : ℕ) × Places path axis p i × (slice_index lows p + leaf_dist T p i ≡ slice_index lows i))

-- the chain is the one that is shown for the coordinate of its last leaf
pub record ShowsLeaf (T : TreeValue) (path : List Step) (axis : Axis) (last : ℕ) (leaves : List ℕ) : Type 0 where
  pub chain : IsChain (leaf_count T) path axis leaves
  pub ends : last_of leaves ≡ last
  pub shown : AreShown T path axis leaves
  pub begins : IsLow T path axis (first_of leaves) 0
