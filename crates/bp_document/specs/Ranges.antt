-- The ranges within which a document has a text.
use Rattle.std.specs.Prelude.{◌≡◌, ℕ, ◌+◌, ◌≤◌, max, List, [], ◌∷◌, length, All, Option, None, Some}
use Rattle.bp_base.specs.declared.point.Point.{Point}
use Rattle.bp_base.specs.declared.point.Floor.{Floor}
use Rattle.bp_base.specs.declared.chain.Claim.{Claim}
use Rattle.bp_base.specs.declared.chain.Claim.TheVariants.{Walk, Cycle}
use Rattle.bp_base.specs.declared.refutation.Refutation.{Refutation, fold-Refutation}
use Rattle.bp_base.specs.declared.refutation.Refutation.TheOpen.{Refutation-F}
use Rattle.bp_base.specs.Limits.{most_number, most_proof_lines, most_steps}
use Rattle.bp_base.specs.Chain.{IsChainList}
use Rattle.bp_base.specs.Point.{IsSmallPoint}
use Rattle.bp_base.specs.Tree.{IsTree, leaf_count}
use Rattle.bp_metric.specs.Metric.{IsSheet}
use Rattle.bp_metric.specs.Nodes.{Part, SplitOf, ClosedBy, OpenBy, parts_of, node_count_of}
use Rattle.bp_document.specs.declared.document.Document.{Document}

-- one more than the greatest of these depths, or 0 where there are none
abbrev pub one_deeper : List ℕ → ℕ
one_deeper [] = 0
one_deeper (d ∷ ds) = max (d + 1) (one_deeper ds)

abbrev pub depth_at : Refutation-F ℕ → ℕ
depth_at (Refutation-F.Split p depths) = one_deeper depths
depth_at (Refutation-F.Closed claim) = 0
depth_at (Refutation-F.Open claim) = 0

-- the greatest depth of a node; the root has depth 0
unfoldable pub depth_of : Refutation → ℕ
depth_of r = fold-Refutation ℕ depth_at r

abbrev pub IsChainOf : Claim → Type 0
IsChainOf (Walk axis chain) = IsChainList chain
IsChainOf (Cycle axis chain) = IsChainList chain

abbrev pub IsSmallPart : Part → Type 0
IsSmallPart (SplitOf p children) = (p.i ≤ most_number) × (p.j ≤ most_number)
IsSmallPart (ClosedBy claim) = IsChainOf claim
IsSmallPart (OpenBy claim) = IsChainOf claim

pub record IsProof (r : Refutation) : Type 0 where
  pub lines : node_count_of r ≤ most_proof_lines
  pub depth : depth_of r ≤ most_steps
  pub parts : All IsSmallPart (parts_of r)

abbrev pub HasProof : Option Refutation → Type 0
HasProof None = Unit {0}
HasProof (Some r) = IsProof r

pub record IsFloorLine (f : Floor) : Type 0 where
  pub m : f.m ≤ most_number
  pub side : f.side ≤ most_number
  pub leaves : IsChainList f.leaves

-- the document's tree, numbers, lists, number of proof lines and depth are within the ranges of its text, and it has one point per leaf
pub record IsDocument (D : Document) : Type 0 where
  pub tree : IsTree D.tree
  pub side : D.side ≤ most_number
  pub bound : D.bound ≤ most_number
  pub each : length D.points ≡ leaf_count D.tree
  pub points : All IsSmallPoint D.points
  pub floor : IsFloorLine D.floor
  pub proof : HasProof D.proof
  pub sheet : IsSheet D.sheet
