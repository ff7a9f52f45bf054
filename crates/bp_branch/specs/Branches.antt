-- Branches of a search: paths whose pairs were each picked by next, and the points of least coordinates.
use Rattle.std.specs.Prelude.{◌≡◌, ◌≢◌, ℕ, ◌<◌, List, [], ◌∷◌, length, take, slice_get, AllPairs, Some}
use Rattle.bp_base.specs.declared.point.Point.{Point}
use Rattle.bp_base.specs.declared.path.Step.{Step}
use Rattle.bp_base.specs.declared.record.Least.{Least}
use Rattle.bp_base.specs.Tree.{TreeValue, leaf_count}
use Rattle.bp_metric.specs.Chains.{HasPairsOf, HasCycle}
use Rattle.bp_metric.specs.Next.{IsNextPair}

-- step k of the path is for the next pair of the steps before it
pub record PicksAt (T : TreeValue) (path : List Step) (k : ℕ) : Type 0 where
  pub step : Step
  pub is : slice_get path k ≡ Some step
  pub next : IsNextPair T (take k path) step.pair

abbrev pub IsPicked : TreeValue → List Step → Type 0
IsPicked T path = (k : ℕ) → k < length path → PicksAt T path k

-- A branch: a path of different pairs of leaves without a cycle.
pub record IsBranch (T : TreeValue) (path : List Step) : Type 0 where
  pub pairs : HasPairsOf (leaf_count T) path
  pub differ : AllPairs (λ (s t : Step). s.pair ≢ t.pair) path
  pub no_cycle : HasCycle (leaf_count T) path → ⊥

-- one point for each leaf, of its two coordinates
abbrev pub points_of : List ℕ → List ℕ → List Point
points_of [] ys = []
points_of (x ∷ xs) [] = []
points_of (x ∷ xs) (y ∷ ys) = (record { x = x; y = y }) ∷ points_of xs ys

abbrev pub low_points : Least → List Point
low_points l = points_of l.xs l.ys
