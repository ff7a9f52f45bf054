-- What judging a path against a bound gives.
use Rattle.std.specs.Prelude.{ℕ, ◌<◌, ◌≤◌, List, Option, None, Some}
use Rattle.bp_base.specs.declared.path.Step.{Step}
use Rattle.bp_base.specs.declared.point.Sheet.{Sheet}
use Rattle.bp_base.specs.declared.record.Least.{Least}
use Rattle.bp_base.specs.declared.record.Outcome.{Outcome}
use Rattle.bp_base.specs.declared.record.Outcome.TheVariants.{Closed, Cyclic, Solved, Split}
use Rattle.bp_base.specs.Tree.{TreeValue, leaf_count}
use Rattle.bp_metric.specs.Chains.{HasCycle}
use Rattle.bp_metric.specs.Coordinates.{IsForced, IsLeast, IsShown, IsCycleShown}
use Rattle.bp_metric.specs.Next.{IsNext, IsNextPair}

-- the path has no cycle and forces at least the bound: its shown chain closes it
pub record IsClosed (T : TreeValue) (G : Sheet) (path : List Step) (bound : ℕ) : Type 0 where
  pub side : ℕ
  pub forced : IsForced T G path side
  pub enough : bound ≤ side

-- the path has no cycle, forces less than the bound, and has no next pair
pub record IsSolved (T : TreeValue) (G : Sheet) (path : List Step) (bound side : ℕ) : Type 0 where
  pub forced : IsForced T G path side
  pub below : side < bound
  pub no_next : IsNext T path None

-- the path has no cycle, forces less than the bound, and has this next pair
pub record IsSplit (T : TreeValue) (G : Sheet) (path : List Step) (bound : ℕ) : Type 0 where
  pub no_cycle : HasCycle (leaf_count T) path → ⊥
  pub side : ℕ
  pub forced : IsForced T G path side
  pub below : side < bound

abbrev pub IsOutcome : TreeValue → Sheet → List Step → ℕ → Outcome → Type 0
IsOutcome T G path bound (Cyclic claim) = IsCycleShown (leaf_count T) path claim
IsOutcome T G path bound (Closed claim) = IsShown T G path claim × IsClosed T G path bound
IsOutcome T G path bound (Solved side claim) = IsShown T G path claim × IsSolved T G path bound side
IsOutcome T G path bound (Split p) = IsSplit T G path bound × IsNextPair T path p

abbrev pub IsCyclic : Outcome → Type 0
IsCyclic (Cyclic claim) = Unit {0}
IsCyclic (Closed claim) = ⊥
IsCyclic (Solved side claim) = ⊥
IsCyclic (Split p) = ⊥

-- the coordinates beside an outcome: the least ones, or none exactly where the path has a cycle
abbrev pub HasLeast : TreeValue → Sheet → List Step → Outcome → Option Least → Type 0
HasLeast T G path outcome None = IsCyclic outcome
HasLeast T G path outcome (Some l) = IsLeast T G path l × (IsCyclic outcome → ⊥)
