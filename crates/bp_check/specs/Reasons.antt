-- The first condition that a document fails, in the order of the reasons.
use Rattle.std.specs.Prelude.{◌≡◌, ◌⊎◌, ℕ, ◌<◌, List, length, Option, None, Some, slice_get}
use Rattle.bp_base.specs.declared.point.Sheet.{Sheet}
use Rattle.bp_base.specs.declared.path.Step.{Step}
use Rattle.bp_base.specs.declared.refutation.Refutation.{Refutation}
use Rattle.bp_base.specs.Tree.{TreeValue, leaf_count}
use Rattle.bp_metric.specs.Choices.{allowed}
use Rattle.bp_metric.specs.Chains.{ClaimHolds}
use Rattle.bp_metric.specs.Floor.{FloorHolds}
use Rattle.bp_metric.specs.Refutation.{CanSplit}
use Rattle.bp_metric.specs.Nodes.{Node, Part, SplitOf, ClosedBy, OpenBy, nodes_of}
use Rattle.bp_pairs.specs.Flaws.{IsFirstOutside, AreFirstNear}
use Rattle.bp_document.specs.declared.document.Document.{Document}
use Rattle.bp_check.specs.declared.verdict.Reason.{Reason}
use Rattle.bp_check.specs.declared.verdict.Reason.TheVariants.{TreeDiffers, Outside, TooNear, BadFloor, BadSplit, BadChain, BoundNotShown, StripSheet}
use Rattle.bp_check.specs.Checks.{IsBoundShown}

-- no smaller number has the property
abbrev pub IsLeast : (ℕ → Type 0) → ℕ → Type 0
IsLeast P k = P k × ((l : ℕ) → l < k → P l → ⊥)

-- a split is bad where its pair is no pair of leaves or stands already on its path, or where it hasn't one child for each allowed choice
abbrev pub IsBadSplit : TreeValue → Sheet → List Step → Part → Type 0
IsBadSplit T G path (SplitOf p children) = (CanSplit T path p → ⊥) ⊎ (children ≡ length (allowed T G p) → ⊥)
IsBadSplit T G path (ClosedBy claim) = ⊥
IsBadSplit T G path (OpenBy claim) = ⊥

-- a chain is bad where the claim doesn't hold for its path
abbrev pub IsBadChain : TreeValue → Sheet → List Step → Part → Type 0
IsBadChain T G path (SplitOf p children) = ⊥
IsBadChain T G path (ClosedBy claim) = ClaimHolds (leaf_count T) path claim → ⊥
IsBadChain T G path (OpenBy claim) = ClaimHolds (leaf_count T) path claim → ⊥

-- node k of the proof, in preorder from 0 on, has the property
abbrev pub HasAt : (List Step → Part → Type 0) → List Node → ℕ → Type 0
HasAt P nodes k = (node : Node) × (slice_get nodes k ≡ Some node) × P node.path node.part

abbrev pub HasBadSplit : TreeValue → Sheet → Option Refutation → ℕ → Type 0
HasBadSplit T G None k = ⊥
HasBadSplit T G (Some r) k = HasAt (IsBadSplit T G) (nodes_of T G r) k

abbrev pub HasBadChain : TreeValue → Sheet → Option Refutation → ℕ → Type 0
HasBadChain T G None k = ⊥
HasBadChain T G (Some r) k = HasAt (IsBadChain T G) (nodes_of T G r) k

-- the conditions of each reason, without those before it
abbrev pub Fails : TreeValue → Document → Reason → Type 0
Fails T D TreeDiffers = D.tree ≡ T → ⊥
Fails T D (Outside i) = IsFirstOutside T D.sheet D.side D.points i
Fails T D (TooNear i j) = AreFirstNear T D.points i j
Fails T D BadFloor = FloorHolds T D.sheet D.floor → ⊥
Fails T D (BadSplit node) = IsLeast (HasBadSplit T D.sheet D.proof) node
Fails T D (BadChain node) = IsLeast (HasBadChain T D.sheet D.proof) node
Fails T D BoundNotShown = IsBoundShown T D → ⊥
Fails T D StripSheet = ⊥

-- reasons stand in this order
abbrev pub rank : Reason → ℕ
rank TreeDiffers = 0
rank (Outside i) = 1
rank (TooNear i j) = 2
rank BadFloor = 3
rank (BadSplit node) = 4
rank (BadChain node) = 5
rank BoundNotShown = 6
rank StripSheet = 7

-- The first reason why the document is no right design of T. It speaks of a document with one point per leaf of its own tree:
-- there one of them comes exactly where the document doesn't check.
pub record IsFirstReason (T : TreeValue) (D : Document) (reason : Reason) : Type 0 where
  pub fails : Fails T D reason
  pub first : (other : Reason) → rank other < rank reason → Fails T D other → ⊥
