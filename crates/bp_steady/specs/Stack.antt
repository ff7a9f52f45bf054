-- The path of a search: what is done with beside it, and what it comes to.
use Rattle.std.specs.Prelude.{◌≡◌, ℕ, ◌+◌, ◌<◌, ◌≤◌, List, [], ◌∷◌, ◌++◌, Option, None, Some, Bool, true, false, length, take, slice_index, slice_index_or, All}
use Rattle.bp_base.specs.declared.path.Choice.{Choice}
use Rattle.bp_base.specs.declared.path.Choice.TheVariants.{Left, Right, Below, Above}
use Rattle.bp_base.specs.declared.path.Pair.{Pair}
use Rattle.bp_base.specs.declared.path.Step.{Step}
use Rattle.bp_base.specs.Tree.{TreeValue, leaf_count}
use Rattle.bp_metric.specs.Chains.{HasPairsOf}
use Rattle.bp_steady.specs.Bounds.{BoundsValue, IsInTree}
use Rattle.bp_steady.specs.Searching.{AreUnder, BeginsWith, IsAnswered, IsFarthest, IsRow, NoPlacing, choice_at}
use Rattle.bp_steady.specs.Sums.{AreInTree}
use Rattle.bp_steady.specs.declared.searching.Answer.{Answer}
use Rattle.bp_steady.specs.declared.searching.Answer.TheVariants.{Yes, No, Spent as OutOfBudget}
use Rattle.bp_steady.specs.declared.searching.Walked.{Walked}
use Rattle.bp_steady.specs.declared.searching.Walked.TheVariants.{Reached, Closed, Spent}

-- the choice that is tried after this one
abbrev pub choice_after : Choice → Option Choice
choice_after Left = Some Right
choice_after Right = Some Below
choice_after Below = Some Above
choice_after Above = None

-- The four children of a path.

abbrev pub step_at : Pair → ℕ → Step
step_at pair k = record { pair = pair; choice = choice_at k }

abbrev pub child_at : List Step → Pair → ℕ → List Step
child_at path pair k = path ++ step_at pair k ∷ []

-- the paths below the first k children
pub record AreTried (T : TreeValue) (b : BoundsValue) (path : List Step) (pair : Pair) (k : ℕ) (paths : List (List Step)) : Type 0 where
  pub in_tree : AreInTree T b paths
  pub begin : All (λ q. (j : ℕ) × (j < k) × BeginsWith (child_at path pair j) q) paths

-- after k children so many are tried, and none of these has a placement
pub record IsTrying (T : TreeValue) (b : BoundsValue) (path : List Step) (pair : Pair) (before left k : ℕ) : Type 0 where
  pub paths : List (List Step)
  pub tried : AreTried T b path pair k paths
  pub count : length paths + left ≡ before
  pub none : (j : ℕ) → j < k → NoPlacing T b (child_at path pair j)

-- a path that was examined and has this row; its next pair is tried, and child k is the next
pub record IsLevel (T : TreeValue) (b : BoundsValue) (path : List Step) (row : List ℕ) (pair : Pair) (before left k : ℕ) : Type 0 where
  pub pairs : HasPairsOf (leaf_count T) path
  pub in_tree : IsInTree T b path
  pub is_row : IsRow T path b row
  pub best : IsFarthest T row (leaf_count T) 0 pair
  pub few : k < 4
  pub trying : IsTrying T b path pair before left k

-- The path is to be examined, and so much is left of the budget: each path that it begins with was examined and has its row, and the
-- children before that on the path are tried. The rows are those of these paths.
pub data IsOpen (T : TreeValue) (b : BoundsValue) (budget : ℕ) : List Step → List (List ℕ) → ℕ → Type 0 where
  root : IsOpen T b budget [] [] budget
  below :
      {path : List Step} {rows : List (List ℕ)} {m : ℕ} → IsOpen T b budget path rows m
      → (before : ℕ) → before + 1 ≡ m
      → (row : List ℕ) (pair : Pair) (left k : ℕ) → IsLevel T b path row pair before left k
      → IsOpen T b budget (path ++ step_at pair k ∷ []) (rows ++ row ∷ []) left

-- A path of which the children before that on the path have no placement under the bounds.
pub data IsGuide (T : TreeValue) (b : BoundsValue) : List Step → Type 0 where
  start : IsGuide T b []
  further :
      {path : List Step} → IsGuide T b path
      → (pair : Pair) (k : ℕ)
      → ((j : ℕ) → j < k → NoPlacing T b (child_at path pair j))
      → k < 4
      → IsGuide T b (path ++ step_at pair k ∷ [])

-- a guide under bounds that these keep to, even with the high number at c up to h
pub record IsGuided (T : TreeValue) (b : BoundsValue) (c h : ℕ) (guide : List Step) : Type 0 where
  pub wide : BoundsValue
  pub is_guide : IsGuide T wide guide
  pub lows : (k : ℕ) → slice_index wide.low k ≤ slice_index b.low k
  pub highs : (k : ℕ) → (k ≡ c → ⊥) → slice_index b.high k ≤ slice_index wide.high k
  pub here : h ≤ slice_index wide.high c

-- where this is told, the path is the beginning of the guide
abbrev pub IsLed : Bool → List Step → List Step → Type 0
IsLed led path guide = led ≡ true → path ≡ take (length path) guide

-- the step of the guide after this path
pub record IsGuiding (led : Bool) (path guide : List Step) (pair : Pair) (step : Step) : Type 0 where
  pub told : led ≡ true
  pub within : length path < length guide
  pub is_step : slice_index_or guide (length path) step ≡ step
  pub same : step.pair ≡ pair

-- one more step, of this pair, with a choice before which none has a placement, by the guide
abbrev pub IsStepped : List Step → Pair → List Step → List Step → Type 0
IsStepped guide pair path new =
    (k : ℕ)
    × (k < 4)
    × (new ≡ path ++ step_at pair k ∷ [])
    × ((T : TreeValue) (b : BoundsValue) → IsGuide T b guide → (j : ℕ) → j < k → NoPlacing T b (child_at path pair j))

-- the guide after a question: another where the answer is Yes
abbrev pub IsKept : TreeValue → BoundsValue → List Step → List Step → Answer → Type 0
IsKept T b old new Yes = IsGuide T b new
IsKept T b old new No = new ≡ old
IsKept T b old new OutOfBudget = new ≡ old

-- what a search of all paths answers
abbrev pub IsEnded : TreeValue → BoundsValue → ℕ → ℕ → Answer → Type 0
IsEnded T b budget left answer = IsAnswered (AreUnder T b []) T b [] budget left answer

-- the path was examined, and has this row
pub record IsReached (T : TreeValue) (b : BoundsValue) (budget : ℕ) (path : List Step) (rows : List (List ℕ)) (row : List ℕ) (left : ℕ) : Type 0 where
  pub is_open : IsOpen T b budget path rows (left + 1)
  pub is_row : IsRow T path b row

-- all below the path is examined, and has no placement
pub record IsShut (T : TreeValue) (b : BoundsValue) (budget : ℕ) (path : List Step) (rows : List (List ℕ)) (left : ℕ) : Type 0 where
  pub before : ℕ
  pub is_open : IsOpen T b budget path rows before
  pub none : IsAnswered (AreUnder T b path) T b path before left No

-- the next path, or that there is none
abbrev pub IsTurned : TreeValue → BoundsValue → ℕ → List Step → List (List ℕ) → ℕ → Bool → Type 0
IsTurned T b budget path rows left true = IsOpen T b budget path rows left × (0 < length rows)
IsTurned T b budget path rows left false = IsEnded T b budget left No

abbrev pub IsWalked : TreeValue → BoundsValue → ℕ → List Step → List (List ℕ) → List ℕ → ℕ → Walked → Type 0
IsWalked T b budget path rows row left Reached = IsReached T b budget path rows row left
IsWalked T b budget path rows row left Closed = IsEnded T b budget left No
IsWalked T b budget path rows row left Spent = IsEnded T b budget left OutOfBudget
