-- What a search has come to, and the document that tells it.
use Rattle.std.specs.Prelude.{◌≡◌, ◌≢◌, ℕ, ◌+◌, ◌<◌, ◌≤◌, List, [], length, All, AllPairs, Option, None, Some}
use Rattle.bp_base.specs.declared.path.Step.{Step}
use Rattle.bp_base.specs.declared.point.Floor.{Floor}
use Rattle.bp_base.specs.declared.point.Sheet.{Sheet}
use Rattle.bp_base.specs.declared.record.Record.{Record}
use Rattle.bp_base.specs.declared.record.RecordKind.{RecordKind}
use Rattle.bp_base.specs.declared.record.RecordKind.TheVariants.{Split, Closed}
use Rattle.bp_base.specs.declared.record.Settled.{Settled}
use Rattle.bp_base.specs.declared.record.Task.{Task}
use Rattle.bp_base.specs.declared.refutation.Refutation.{Refutation}
use Rattle.bp_base.specs.Limits.{most_number, most_proof_lines}
use Rattle.bp_base.specs.Tree.{TreeValue, leaf_count}
use Rattle.bp_metric.specs.Chains.{ClaimHolds, HasPairsOf}
use Rattle.bp_metric.specs.Floor.{FloorHolds, IsFloor}
use Rattle.bp_metric.specs.Nodes.{counted_part, nodes_of, weighs}
use Rattle.bp_metric.specs.Records.{IsBalanced}
use Rattle.bp_metric.specs.Refutation.{CanSplit, Fits}
use Rattle.bp_metric.specs.Valid.{Valid}
use Rattle.bp_floor.specs.Small.{IsSmall}
use Rattle.bp_document.specs.declared.document.Document.{Document}
use Rattle.bp_check.specs.Written.{CountsFrom, bound_of, examined_count, open_count}
use Rattle.bp_join.specs.Joined.{IsJoined, part_of}

-- different pairs of leaves
pub record IsOfPairs (T : TreeValue) (path : List Step) : Type 0 where
  pub pairs : HasPairsOf (leaf_count T) path
  pub differ : AllPairs (λ (s t : Step). s.pair ≢ t.pair) path

-- what may be found of a path: a split for a pair of leaves that isn't on it, or a claim that holds there
abbrev pub MayStand : TreeValue → List Step → RecordKind → Type 0
MayStand T path (Split p) = CanSplit T path p
MayStand T path (Closed claim) = ClaimHolds (leaf_count T) path claim

-- A search that a document can tell: no branch of it is lost or doubled, each record may stand at its path, there is room for all, and its
-- points are valid at its side.
pub record CanBeTold (T : TreeValue) (G : Sheet) (Z : Settled) : Type 0 where
  pub balanced : IsBalanced T G Z.records Z.left
  pub records : All (λ (r : Record). IsOfPairs T r.path × MayStand T r.path r.kind) Z.records
  pub left : All (λ (t : Task). IsOfPairs T t.path) Z.left
  pub room : length Z.records + length Z.left ≤ most_proof_lines
  pub valid : Valid T G 1 Z.side Z.points
  pub small : Z.side ≤ most_number

-- the tree's floor on the sheet, as a document tells it
pub record IsFloorOf (T : TreeValue) (G : Sheet) (f : Floor) : Type 0 where
  pub floor : IsFloor T G f
  pub holds : FloorHolds T G f
  pub small : IsSmall f

-- the record's claim counts with at least the side, or it doesn't count
abbrev pub Counts : TreeValue → Sheet → ℕ → Record → Type 0
Counts T G side r = CountsFrom side (counted_part T G (part_of T G r.kind))

-- the refutation that proves the bound: its nodes are the records and the tasks left
pub record IsProofOf (T : TreeValue) (G : Sheet) (Z : Settled) (floor bound : ℕ) (r : Refutation) : Type 0 where
  pub above : floor < Z.side
  pub joined : IsJoined T G Z.records Z.left r
  pub fits : Fits T G r []
  pub examined : examined_count (nodes_of T G r) ≡ length Z.records
  pub opened : open_count (nodes_of T G r) ≡ length Z.left
  pub bound_is : bound ≡ bound_of Z.side floor (weighs T G r)
  -- where nothing is left and each record counts, the bound is the side
  pub whole : length Z.left ≡ 0 → All (Counts T G Z.side) Z.records → bound ≡ Z.side

-- without a proof the side is the floor's, and so is the bound; with one it isn't
abbrev pub HasProofOf : TreeValue → Sheet → Settled → Floor → Option Refutation → ℕ → Type 0
HasProofOf T G Z f None bound = (Z.side ≡ f.side) × (bound ≡ Z.side)
HasProofOf T G Z f (Some r) bound = IsProofOf T G Z f.side bound r

-- the document that tells the search, with this floor
pub record IsDocumentOf (T : TreeValue) (G : Sheet) (Z : Settled) (f : Floor) (D : Document) : Type 0 where
  pub tree : D.tree ≡ T
  pub sheet : D.sheet ≡ G
  pub side : D.side ≡ Z.side
  pub points : D.points ≡ Z.points
  pub floor : D.floor ≡ f
  pub proof : HasProofOf T G Z f D.proof D.bound

-- the refutation fits some path
abbrev pub FitsSome : TreeValue → Sheet → Refutation → Type 0
FitsSome T G r = (path : List Step) × Fits T G r path
