-- One turn of a search: a task is examined against a bound, which gives its record, its children, and its placement where it is solved.
use Rattle.std.specs.Prelude.{◌≡◌, ◌⊎◌, ℕ, min, List, [], length, map, Option, None, Some}
use Rattle.bp_base.specs.declared.path.Choice.{Choice}
use Rattle.bp_base.specs.declared.path.Pair.{Pair}
use Rattle.bp_base.specs.declared.path.Step.{Step}
use Rattle.bp_base.specs.declared.point.Axis.TheVariants.{X, Y}
use Rattle.bp_base.specs.declared.point.Placement.{Placement}
use Rattle.bp_base.specs.declared.point.Point.{Point}
use Rattle.bp_base.specs.declared.point.Sheet.{Sheet}
use Rattle.bp_base.specs.declared.record.RecordKind.{RecordKind}
use Rattle.bp_base.specs.declared.record.RecordKind.TheVariants.{Split, Closed}
use Rattle.bp_base.specs.declared.record.Task.{Task}
use Rattle.bp_base.specs.Point.{point_at}
use Rattle.bp_base.specs.Tree.{TreeValue, IsLeaf, leaf_count}
use Rattle.bp_metric.specs.Choices.{allowed}
use Rattle.bp_metric.specs.Chains.{HasCycle}
use Rattle.bp_metric.specs.Coordinates.{IsCycleShown, IsLow, IsShown}
use Rattle.bp_metric.specs.Next.{IsNextPair}
use Rattle.bp_metric.specs.Refutation.{extended}
use Rattle.bp_branch.specs.Outcomes.{IsClosed, IsSolved, IsSplit}
use Rattle.bp_turn.specs.declared.examining.Turn.{Turn}

-- one point for each leaf, of its low coordinates
pub record AreLowPoints (T : TreeValue) (path : List Step) (points : List Point) : Type 0 where
  pub each : length points ≡ leaf_count T
  pub xs : (i : ℕ) → IsLeaf T i → IsLow T path X i (point_at points i).x
  pub ys : (i : ℕ) → IsLeaf T i → IsLow T path Y i (point_at points i).y

-- what judging the path against the bound gives: the kind of its record, and a placement exactly where it is solved
abbrev pub IsFound : TreeValue → Sheet → List Step → ℕ → RecordKind → Option Placement → Type 0
IsFound T G path bound (Split p) None = IsSplit T G path bound × IsNextPair T path p
IsFound T G path bound (Split p) (Some placement) = ⊥
IsFound T G path bound (Closed claim) None = IsShown T G path claim × IsClosed T G path bound
IsFound T G path bound (Closed claim) (Some placement) =
    IsShown T G path claim × IsSolved T G path bound placement.side × AreLowPoints T path placement.points

-- a path with a cycle is closed by one
abbrev pub IsCycleFound : TreeValue → List Step → RecordKind → Option Placement → Type 0
IsCycleFound T path (Closed claim) None = IsCycleShown (leaf_count T) path claim
IsCycleFound T path (Closed claim) (Some placement) = ⊥
IsCycleFound T path (Split p) placement = ⊥

-- what judging any path gives: it has no cycle and is found as a branch is, or it has one
abbrev pub IsFoundOrCyclic : TreeValue → Sheet → List Step → ℕ → RecordKind → Option Placement → Type 0
IsFoundOrCyclic T G path bound kind placement = ((HasCycle (leaf_count T) path → ⊥) × IsFound T G path bound kind placement) ⊎ IsCycleFound T path kind placement

-- the task of the path with one more step
abbrev pub child : List Step → ℕ → Pair → Choice → Task
child path bound p c = record { path = extended path p c; bound = bound }

-- the children of a split, one for each allowed choice, in order
abbrev pub tasks_of : TreeValue → Sheet → List Step → ℕ → RecordKind → List Task
tasks_of T G path bound (Split p) = map (child path bound p) (allowed T G p)
tasks_of T G path bound (Closed claim) = []

-- the turn of a task, for a hand that knows a side and has the ticket of this number
pub record IsTurn (T : TreeValue) (G : Sheet) (task : Task) (known number : ℕ) (tasks : List Task) (turn : Turn) : Type 0 where
  pub path : turn.record.path ≡ task.path
  pub ticket : turn.record.ticket ≡ number
  pub given : turn.record.given ≡ task.bound
  pub bound : turn.record.bound ≡ min known task.bound
  pub found : IsFound T G task.path turn.record.bound turn.record.kind turn.placement
  pub children : tasks ≡ tasks_of T G task.path turn.record.bound turn.record.kind
