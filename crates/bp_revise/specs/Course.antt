-- A revision on its way: what was examined beside what is kept, and what is left.
use Rattle.std.specs.Prelude.{◌≡◌, ◌⊎◌, ℕ, ◌<◌, ◌≤◌, List, [], ◌∷◌, ◌++◌, length, map, All, Any, Option, None, Some}
use Rattle.bp_base.specs.declared.path.Step.{Step}
use Rattle.bp_base.specs.declared.point.Placement.{Placement}
use Rattle.bp_base.specs.declared.point.Sheet.{Sheet}
use Rattle.bp_base.specs.declared.record.Record.{Record}
use Rattle.bp_base.specs.declared.record.Settled.{Settled}
use Rattle.bp_base.specs.declared.record.Task.{Task}
use Rattle.bp_base.specs.declared.refutation.Refutation.{Refutation}
use Rattle.bp_base.specs.Limits.{most_proof_lines}
use Rattle.bp_base.specs.Tree.{TreeValue}
use Rattle.bp_metric.specs.Distance.{most_side}
use Rattle.bp_metric.specs.Floor.{IsFloor}
use Rattle.bp_metric.specs.Nodes.{Node, node_count_of, nodes_of}
use Rattle.bp_metric.specs.Records.{IsBalanced, paths_left}
use Rattle.bp_metric.specs.Refutation.{Fits}
use Rattle.bp_metric.specs.Valid.{Valid}
use Rattle.bp_document.specs.declared.document.Document.{Document}
use Rattle.bp_document.specs.Ranges.{IsDocument}
use Rattle.bp_check.specs.Checks.{Checks}
use Rattle.bp_join.specs.Joined.{node_of}
use Rattle.bp_written.specs.Told.{IsOfPairs}
use Rattle.bp_revise.specs.Apart.{examined, open_paths}
use Rattle.bp_revise.specs.Revised.{AreSolvedPoints, HasRevisedProof, IsGrown, IsOther, IsSolved, PartCounts, budget_beside}

-- a record that was made
abbrev pub IsMade : TreeValue → Sheet → ℕ → List (List Step) → ℕ → Record → Type 0
IsMade T G start roots side r = IsOfPairs T r.path × IsOther T G start roots side (node_of T G r)

-- the record solves its path at v
abbrev pub Solves : TreeValue → Sheet → ℕ → Record → Type 0
Solves T G v r = IsSolved T G v (node_of T G r)

-- a branch left
abbrev pub IsLeft : TreeValue → Sheet → ℕ → List (List Step) → Task → Type 0
IsLeft T G start roots t = IsOfPairs T t.path × IsGrown T G start roots t.path

-- from this start and these kept records, with these paths open
pub record IsOnCourse (T : TreeValue) (G : Sheet) (start : Placement) (base : List Record) (roots : List (List Step)) (Z : Settled) : Type 0 where
  pub made : List Record
  pub records : Z.records ≡ base ++ made
  pub many : length made ≡ Z.examined
  pub each : All (IsMade T G start.side roots Z.side) made
  pub balanced : IsBalanced T G Z.records Z.left
  pub no_worse : Z.side ≤ start.side
  pub least : (v : ℕ) → Any (Solves T G v) made → Z.side ≤ v
  pub reached : (Z.side ≡ start.side) ⊎ Any (Solves T G Z.side) made
  pub valid : Valid T G 1 Z.side Z.points
  pub points : Z.side ≡ start.side → Z.points ≡ start.points
  pub solved : Z.side < start.side → AreSolvedPoints T G start.side roots Z.side Z.points
  pub left : All (IsLeft T G start.side roots) Z.left

-- the same with one branch more, which was taken in hand
abbrev pub with_task : Settled → Task → Settled
with_task Z t = record Z { left = Z.left ++ t ∷ [] }

-- a placement of a solved branch is the best one
abbrev pub placed : Settled → Option Placement → Settled
placed Z None = Z
placed Z (Some p) = record Z { side = p.side; points = p.points }

-- nothing is left, or the budget is spent, or the side is at most the floor's
abbrev pub IsAtEnd : ℕ → ℕ → Settled → Type 0
IsAtEnd floor budget Z = (Z.examined ≤ budget) × ((Z.left ≡ []) ⊎ ((Z.examined ≡ budget) ⊎ (Z.side ≤ floor)))

-- what is kept, with its split and closed nodes as records and its open ones as branches left
pub record IsBegun (T : TreeValue) (G : Sheet) (kept : Refutation) (base : List Record) (first : List Task) : Type 0 where
  pub records : map (node_of T G) base ≡ examined (nodes_of T G kept)
  pub left : paths_left first ≡ open_paths (nodes_of T G kept)

-- a revision of what is kept, as it ends
pub record IsEnded (T : TreeValue) (G : Sheet) (B floor : ℕ) (start : Placement) (kept : Refutation) (Z : Settled) : Type 0 where
  pub fits : Fits T G kept []
  pub counts : All (λ (n : Node). PartCounts T G start.side n.part) (nodes_of T G kept)
  pub few : node_count_of kept ≤ most_proof_lines
  pub small : start.side ≤ most_side
  pub base : List Record
  pub first : List Task
  pub begun : IsBegun T G kept base first
  pub course : IsOnCourse T G start base (open_paths (nodes_of T G kept)) Z
  pub end : IsAtEnd floor (budget_beside B kept) Z

-- the document of it
pub record IsWrittenFrom (T : TreeValue) (G : Sheet) (B : ℕ) (start : Placement) (kept : Refutation) (D : Document) : Type 0 where
  pub checks : Checks T D
  pub ranges : IsDocument D
  pub sheet : D.sheet ≡ G
  pub floor : IsFloor T G D.floor
  pub no_worse : D.side ≤ start.side
  pub points : D.side ≡ start.side → D.points ≡ start.points
  pub solved : D.side < start.side → AreSolvedPoints T G start.side (open_paths (nodes_of T G kept)) D.side D.points
  pub proof : HasRevisedProof T G B start.side kept D D.proof
