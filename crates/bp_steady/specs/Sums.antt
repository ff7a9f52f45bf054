-- How many paths the trees of some questions have together, and what a budget is compared with.
use Rattle.std.specs.Prelude.{◌≢◌, ℕ, ◌+◌, ◌≤◌, List, [], ◌∷◌, length, All, AllPairs}
use Rattle.bp_base.specs.declared.path.Step.{Step}
use Rattle.bp_base.specs.declared.point.Point.{Point}
use Rattle.bp_base.specs.declared.point.Sheet.{Sheet}
use Rattle.bp_base.specs.Tree.{TreeValue}
use Rattle.bp_metric.specs.Steady.{IsSteady}
use Rattle.bp_steady.specs.Bounds.{BoundsValue, IsInTree}
use Rattle.bp_steady.specs.Questions.{questions}

-- different paths of the tree of the bounds
pub record AreInTree (T : TreeValue) (b : BoundsValue) (paths : List (List Step)) : Type 0 where
  pub each : All (IsInTree T b) paths
  pub differ : AllPairs (λ p r. p ≢ r) paths

-- Size of the bounds is at most m: no list of different paths of their tree is longer
abbrev pub IsSizeWithin : TreeValue → BoundsValue → ℕ → Type 0
IsSizeWithin T b m = (paths : List (List Step)) → AreInTree T b paths → length paths ≤ m

-- the sum of Size over the bounds is at least m: so many paths stand in their trees, those of one tree different
pub data HavePaths (T : TreeValue) : List BoundsValue → ℕ → Type 0 where
  none : HavePaths T [] 0
  more :
      (b : BoundsValue) (paths : List (List Step)) → AreInTree T b paths
      → {bs : List BoundsValue} {m : ℕ} → HavePaths T bs m
      → HavePaths T (b ∷ bs) (length paths + m)

-- M is at least m
abbrev pub IsMAtLeast : TreeValue → Sheet → ℕ → ℕ → Type 0
IsMAtLeast T G S m = (P : List Point) × IsSteady T G S P × HavePaths T (questions T G S P) m

-- M is at most the budget
abbrev pub IsMWithin : TreeValue → Sheet → ℕ → ℕ → Type 0
IsMWithin T G S budget = (m : ℕ) → IsMAtLeast T G S m → m ≤ budget
