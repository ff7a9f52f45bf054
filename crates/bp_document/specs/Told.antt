-- What the lines of a document tell: its head and its nodes.
use Rattle.std.specs.Prelude.{◌≡◌, ℕ, ◌+◌, List, [], ◌∷◌, length, Option, None, Some}
use Rattle.std.specs.List.{flat_map}
use Rattle.bp_base.specs.declared.refutation.Refutation.{Refutation, fold-Refutation}
use Rattle.bp_base.specs.declared.refutation.Refutation.TheOpen.{Refutation-F}
use Rattle.bp_document.specs.declared.document.Document.{Document}
use Rattle.bp_document.specs.declared.head.Head.{Head}
use Rattle.bp_document.specs.declared.node_line.NodeKind.{NodeKind}
use Rattle.bp_document.specs.declared.node_line.NodeKind.TheVariants.{Split, Closed, Open}
use Rattle.bp_document.specs.declared.node_line.NodeLine.{NodeLine}

abbrev pub node_at : ℕ → NodeKind → NodeLine
node_at depth kind = record { depth = depth; kind = kind }

abbrev pub node_list_at : Refutation-F (ℕ → List NodeLine) → ℕ → List NodeLine
node_list_at (Refutation-F.Split p children) depth =
    node_at depth (Split p) ∷ flat_map (λ (nodes : ℕ → List NodeLine). nodes (depth + 1)) children
node_list_at (Refutation-F.Closed claim) depth = node_at depth (Closed claim) ∷ []
node_list_at (Refutation-F.Open claim) depth = node_at depth (Open claim) ∷ []

-- the nodes of a refutation in preorder, the first at this depth
unfoldable pub node_list : Refutation → ℕ → List NodeLine
node_list r = fold-Refutation (ℕ → List NodeLine) node_list_at r

-- A proof has these nodes, and the head says how many they are.
abbrev pub IsProofTold : Option Refutation → Option ℕ → List NodeLine → Type 0
IsProofTold None None ns = ns ≡ []
IsProofTold (Some r) (Some count) ns = (node_list r 0 ≡ ns) × (count ≡ length ns)
IsProofTold None (Some count) ns = ⊥
IsProofTold (Some r) None ns = ⊥

-- The document has this head, and its proof these nodes.
pub record IsToldBy (D : Document) (H : Head) (ns : List NodeLine) : Type 0 where
  pub tree : D.tree ≡ H.tree
  pub side : D.side ≡ H.side
  pub bound : D.bound ≡ H.bound
  pub points : D.points ≡ H.points
  pub floor : D.floor ≡ H.floor
  pub sheet : D.sheet ≡ H.sheet
  pub proof : IsProofTold D.proof H.proof ns

-- the document of a head and a proof
abbrev pub document_of : Head → Option Refutation → Document
document_of H proof = record { tree = H.tree; side = H.side; bound = H.bound; points = H.points; floor = H.floor; proof = proof; sheet = H.sheet }
