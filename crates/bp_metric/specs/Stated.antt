-- The stated tree: the whole branching tree in which every node is judged against the opening's side.
use Rattle.std.specs.Prelude.{◌≡◌, ◌≢◌, ℕ, ◌<◌, ◌≤◌, List, length, take, slice_get, All, AllPairs, Contains, Some}
use Rattle.bp_base.specs.declared.point.Sheet.{Sheet}
use Rattle.bp_base.specs.declared.path.Pair.{Pair}
use Rattle.bp_base.specs.declared.path.Step.{Step}
use Rattle.bp_base.specs.Tree.{TreeValue}
use Rattle.bp_metric.specs.Choices.{allowed}
use Rattle.bp_metric.specs.Coordinates.{IsForced}
use Rattle.bp_metric.specs.Next.{IsNextPair}
use Rattle.bp_metric.specs.Opening.{IsOpeningSide}

-- an inner node for the opening's side u: it forces less, and has this next pair
pub record IsInner (T : TreeValue) (G : Sheet) (u : ℕ) (path : List Step) (p : Pair) : Type 0 where
  pub forced : ℕ
  pub is_forced : IsForced T G path forced
  pub below : forced < u
  pub next : IsNextPair T path p

-- step k of the path branches at an inner node, on its next pair, with an allowed choice
pub record BranchesAt (T : TreeValue) (G : Sheet) (u : ℕ) (path : List Step) (k : ℕ) : Type 0 where
  pub step : Step
  pub is : slice_get path k ≡ Some step
  pub inner : IsInner T G u (take k path) step.pair
  pub choice : Contains (allowed T G step.pair) step.choice

-- the path stands in the stated tree for the opening's side u: the empty path does, and each step branches at an inner node
abbrev pub IsStatedFor : TreeValue → Sheet → ℕ → List Step → Type 0
IsStatedFor T G u path = (k : ℕ) → k < length path → BranchesAt T G u path k

abbrev pub IsStated : TreeValue → Sheet → List Step → Type 0
IsStated T G path = (u : ℕ) → IsOpeningSide T G u → IsStatedFor T G u path

-- B is at least the number of the stated tree's paths: no list of them without repeats is longer
abbrev pub CoversStated : TreeValue → Sheet → ℕ → Type 0
CoversStated T G B = (paths : List (List Step)) → All (IsStated T G) paths → AllPairs (λ p r. p ≢ r) paths → length paths ≤ B
