-- What a revision of an old design is.
use Rattle.std.specs.Prelude.{◌≡◌, ◌≢◌, ◌⊎◌, ℕ, ◌-◌, ◌/◌, ◌<◌, ◌≤◌, min, List, ◌++◌, length, All, AllPairs, Any, Contains, Option, None, Some}
use Rattle.bp_base.specs.declared.path.Choice.{Choice}
use Rattle.bp_base.specs.declared.path.Pair.{Pair}
use Rattle.bp_base.specs.declared.path.Step.{Step}
use Rattle.bp_base.specs.declared.point.Placement.{Placement}
use Rattle.bp_base.specs.declared.point.Point.{Point}
use Rattle.bp_base.specs.declared.point.Sheet.{Sheet}
use Rattle.bp_base.specs.declared.refutation.Refutation.{Refutation}
use Rattle.bp_base.specs.Bags.{AreSame}
use Rattle.bp_base.specs.Limits.{most_proof_lines}
use Rattle.bp_base.specs.Tree.{TreeValue, leaf_count}
use Rattle.bp_metric.specs.Chains.{HasCycle}
use Rattle.bp_metric.specs.Choices.{allowed}
use Rattle.bp_metric.specs.Coordinates.{IsForced, IsShownOrCycle}
use Rattle.bp_metric.specs.Floor.{IsFloor}
use Rattle.bp_metric.specs.Next.{IsNext, IsNextPair}
use Rattle.bp_metric.specs.Nodes.{Node, Part, SplitOf, ClosedBy, OpenBy, counted, node_count_of, nodes_of, weighs}
use Rattle.bp_metric.specs.Refutation.{extended}
use Rattle.bp_branch.specs.Outcomes.{IsSplit}
use Rattle.bp_turn.specs.Turns.{AreLowPoints}
use Rattle.bp_document.specs.declared.document.Document.{Document}
use Rattle.bp_check.specs.Checks.{Checks}
use Rattle.bp_check.specs.Written.{CountsFrom, bound_of, examined_count, open_count}
use Rattle.bp_revise.specs.Apart.{examined, open_paths}
use Rattle.bp_revise.specs.Keep.{kept_of}
use Rattle.bp_revise.specs.Start.{IsStart}

-- What a revision may examine: the open paths of what is kept and, with each path that has no cycle, forces less than the start and has
-- a next pair, the path with one more step for that pair and each allowed choice.
pub data IsGrown (T : TreeValue) (G : Sheet) (start : ℕ) (roots : List (List Step)) : List Step → Type 0 where
  root : {path : List Step} → Contains roots path → IsGrown T G start roots path
  child : {path : List Step} → IsGrown T G start roots path → IsSplit T G path start → (p : Pair) → IsNextPair T path p → (c : Choice) → Contains (allowed T G p) c → IsGrown T G start roots (extended path p c)

-- B is at least the number of those paths: no list of them without repeats is longer
abbrev pub CoversGrown : TreeValue → Sheet → ℕ → List (List Step) → ℕ → Type 0
CoversGrown T G start roots B =
    (paths : List (List Step)) → All (IsGrown T G start roots) paths → AllPairs (λ p r. p ≢ r) paths → length paths ≤ B

-- What stands at a path beside what is kept: a split at a path without a cycle that forces less than the start, on its next pair; a
-- leaf with what is shown of its path or, where that has a cycle, a cycle of it; a closed one at no less than the side.
abbrev pub IsOtherPart : TreeValue → Sheet → ℕ → ℕ → List Step → Part → Type 0
IsOtherPart T G start side path (SplitOf p children) = IsSplit T G path start × IsNextPair T path p
IsOtherPart T G start side path (ClosedBy claim) = IsShownOrCycle T G path claim × CountsFrom side (counted T G claim)
IsOtherPart T G start side path (OpenBy claim) = IsShownOrCycle T G path claim

abbrev pub IsOther : TreeValue → Sheet → ℕ → List (List Step) → ℕ → Node → Type 0
IsOther T G start roots side n = IsGrown T G start roots n.path × IsOtherPart T G start side n.path n.part

abbrev pub PartCounts : TreeValue → Sheet → ℕ → Part → Type 0
PartCounts T G side (SplitOf p children) = Unit {0}
PartCounts T G side (ClosedBy claim) = CountsFrom side (counted T G claim)
PartCounts T G side (OpenBy claim) = Unit {0}

-- v is forced by a closed leaf whose path has no cycle and no next pair
abbrev pub SolvedPart : TreeValue → Sheet → ℕ → List Step → Part → Type 0
SolvedPart T G v path (SplitOf p children) = ⊥
SolvedPart T G v path (ClosedBy claim) = (HasCycle (leaf_count T) path → ⊥) × IsForced T G path v × IsNext T path None
SolvedPart T G v path (OpenBy claim) = ⊥

abbrev pub IsSolved : TreeValue → Sheet → ℕ → Node → Type 0
IsSolved T G v n = SolvedPart T G v n.path n.part

-- the side is the least of the start's and of what the solved leaves force
pub record IsLeastFrom (T : TreeValue) (G : Sheet) (start side : ℕ) (others : List Node) : Type 0 where
  pub no_more : side ≤ start
  pub least : (v : ℕ) → Any (IsSolved T G v) others → side ≤ v
  pub reached : (side ≡ start) ⊎ Any (IsSolved T G side) others

-- the points are the low points of a path that may be examined, has no cycle and no next pair, and forces the side
pub record AreSolvedPoints (T : TreeValue) (G : Sheet) (start : ℕ) (roots : List (List Step)) (side : ℕ) (points : List Point) : Type 0 where
  pub path : List Step
  pub grown : IsGrown T G start roots path
  pub no_cycle : HasCycle (leaf_count T) path → ⊥
  pub forced : IsForced T G path side
  pub no_next : IsNext T path None
  pub low : AreLowPoints T path points

-- how many branches may be examined: no more than the budget, and no more than a document has room for beside what is kept
abbrev pub budget_beside : ℕ → Refutation → ℕ
budget_beside B kept = min B ((most_proof_lines - node_count_of kept) / 4)

-- A revised proof: the split and closed nodes of what is kept, each once and at its path, and others. Its bound, its side, and that the
-- budget was spent where it has open leaves.
pub record IsRevisedProof (T : TreeValue) (G : Sheet) (B start floor side bound : ℕ) (kept r : Refutation) : Type 0 where
  pub others : List Node
  pub same : AreSame (nodes_of T G r) (examined (nodes_of T G kept) ++ others)
  pub each : All (IsOther T G start (open_paths (nodes_of T G kept)) side) others
  pub counts : All (λ (n : Node). PartCounts T G side n.part) (nodes_of T G r)
  pub bound_is : bound ≡ bound_of side floor (weighs T G r)
  pub side_is : IsLeastFrom T G start side others
  pub within_budget : examined_count others ≤ budget_beside B kept
  pub budget_spent : 1 ≤ open_count (nodes_of T G r) → examined_count others ≡ budget_beside B kept
  -- a bound below the side comes of open leaves
  pub open_left : bound < side → 1 ≤ open_count (nodes_of T G r)
  -- a budget that covers what may be examined is enough
  pub complete : CoversGrown T G start (open_paths (nodes_of T G kept)) (budget_beside B kept) → bound ≡ side

-- without a proof the side is the floor's and so is the bound; with one it isn't
abbrev pub HasRevisedProof : TreeValue → Sheet → ℕ → ℕ → Refutation → Document → Option Refutation → Type 0
HasRevisedProof T G B start kept D None = (D.side ≡ D.floor.side) × (D.bound ≡ D.side)
HasRevisedProof T G B start kept D (Some r) =
    (D.side ≡ D.floor.side → ⊥) × IsRevisedProof T G B start D.floor.side D.side D.bound kept r

-- the old proof, where there is one, has no more nodes than a document has room for
abbrev pub HasRoom : Option Refutation → Type 0
HasRoom None = Unit {0}
HasRoom (Some r) = node_count_of r ≤ most_proof_lines

-- D is a revision of the old document for T with budget B
pub record IsRevised (T : TreeValue) (old : Document) (B : ℕ) (D : Document) : Type 0 where
  pub checks : Checks T D
  pub sheet : D.sheet ≡ old.sheet
  pub floor : IsFloor T old.sheet D.floor
  pub start : Placement
  pub is_start : IsStart T old.sheet old.points start
  pub no_worse : D.side ≤ start.side
  pub start_points : D.side ≡ start.side → D.points ≡ start.points
  pub solved_points :
      D.side < start.side
      → AreSolvedPoints T old.sheet start.side (open_paths (nodes_of T old.sheet (kept_of T old.sheet start.side old.proof))) D.side D.points
  pub proof : HasRevisedProof T old.sheet B start.side (kept_of T old.sheet start.side old.proof) D D.proof
