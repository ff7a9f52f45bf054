-- The text of a document, in both its versions.
use Rattle.std.specs.Prelude.{◌≡◌, ℕ, ◌+◌, ◌-◌, List, [], ◌∷◌, ◌++◌, decimal, codes, Option, None, Some}
use Rattle.std.specs.List.{flat_map, zip}
use Rattle.bp_base.specs.declared.point.Point.{Point}
use Rattle.bp_base.specs.declared.point.Sheet.TheVariants.{Square}
use Rattle.bp_base.specs.declared.refutation.Refutation.{Refutation, fold-Refutation}
use Rattle.bp_base.specs.declared.refutation.Refutation.TheOpen.{Refutation-F}
use Rattle.bp_base.specs.Tree.{TreeValue, edges, name_of, node_count, leaf_nodes}
use Rattle.bp_metric.specs.Nodes.{node_count_of}
use Rattle.bp_document.specs.declared.document.Document.{Document}
use Rattle.bp_document.specs.Lines.{line, sheet_line, edge_line, point_line, floor_line, split_line, closed_line, open_line}

abbrev pub node_lines_at : Refutation-F (ℕ → List ℕ) → ℕ → List ℕ
node_lines_at (Refutation-F.Split p children) depth =
    split_line depth p ++ flat_map (λ (lines : ℕ → List ℕ). lines (depth + 1)) children
node_lines_at (Refutation-F.Closed claim) depth = closed_line depth claim
node_lines_at (Refutation-F.Open claim) depth = open_line depth claim

-- a line for each node in preorder, the first at this depth
unfoldable pub node_lines : Refutation → ℕ → List ℕ
node_lines r = fold-Refutation (ℕ → List ℕ) node_lines_at r

unfoldable pub proof_lines : Option Refutation → List ℕ
proof_lines None = line (codes "proof") (codes "none" ∷ [])
proof_lines (Some r) = line (codes "proof") (decimal (node_count_of r) ∷ []) ++ node_lines r 0

unfoldable pub edge_lines : TreeValue → List ℕ
edge_lines T = line (codes "edges") (decimal (node_count T - 1) ∷ []) ++ flat_map (edge_line T) (edges T)

-- the leaves' names and points, in leaf order
unfoldable pub point_lines : TreeValue → List Point → List ℕ
point_lines T P = flat_map (λ (p : ℕ × Point). point_line (name_of T p.0) p.1) (zip (leaf_nodes T) P)

-- all lines after those of version and sheet
unfoldable pub body_text : Document → List ℕ
body_text D =
    edge_lines D.tree ++ line (codes "side") (decimal D.side ∷ []) ++ line (codes "bound") (decimal D.bound ∷ [])
    ++ point_lines D.tree D.points ++ floor_line D.floor ++ proof_lines D.proof ++ line (codes "end") []

-- the text in version 1, where the sheet is a square
unfoldable pub first_text : Document → List ℕ
first_text D = line (codes "boxpleat") (decimal 1 ∷ []) ++ body_text D

-- the text in version 2, which is written
unfoldable pub doc_text : Document → List ℕ
doc_text D = line (codes "boxpleat") (decimal 2 ∷ []) ++ sheet_line D.sheet ++ body_text D

-- the bytes are the document's text in version 1, which a strip doesn't have
abbrev pub IsFirstText : Document → List ℕ → Type 0
IsFirstText D bytes = (D.sheet ≡ Square) × (bytes ≡ first_text D)
