-- What adding an edge's line, and reading that of a point or of a node, answers.
use Rattle.std.specs.Prelude.{◌≡◌, ℕ, ◌+◌, ◌<◌, List, [], ◌∷◌, ◌++◌, length, true, Option, Result, Ok, Err}
use Rattle.bp_base.specs.declared.point.Point.{Point}
use Rattle.bp_base.specs.Tree.{TreeValue, IsTree}
use Rattle.bp_tree.specs.declared.edge.Edge.{Edge}
use Rattle.bp_tree.specs.Edges.{HasEdges, IsLength}
use Rattle.bp_document.specs.declared.fault.DocKind.{DocKind}
use Rattle.bp_document.specs.declared.node_line.NodeLine.{NodeLine}
use Rattle.bp_document.specs.Faults.{IsFirstKind}
use Rattle.bp_document.specs.Forms.{IsEdgeCount, IsEdgeForm, IsPointForm}
use Rattle.bp_document.specs.Nodes.{IsNodeLine}
use Rattle.bp_document.specs.Places.{AtEdge, AtPoint, AtNode, DepthFits}

-- What adding the edge of a line to those so far answers: they have it too, or the first fault that the line has.
abbrev pub FeedsEdge : TreeValue → List ℕ → TreeValue → Result Unit DocKind → Type 0
FeedsEdge T bytes T' (Ok done) =
    (e : Edge) × IsEdgeForm bytes e × IsLength e.length × ((es : List Edge) → HasEdges T es → HasEdges T' (es ++ e ∷ []))
FeedsEdge T bytes T' (Err kind) =
    (E : ℕ) (es : List Edge) → HasEdges T es → IsEdgeCount E → length es < E → IsFirstKind (AtEdge E es) bytes true kind

-- What adding the last edge answers: the tree of all, or the first fault that the line has.
abbrev pub FeedsLastEdge : TreeValue → List ℕ → Result TreeValue DocKind → Type 0
FeedsLastEdge T bytes (Ok U) =
    (e : Edge) × IsEdgeForm bytes e × IsLength e.length × IsTree U × ((es : List Edge) → HasEdges T es → HasEdges U (es ++ e ∷ []))
FeedsLastEdge T bytes (Err kind) =
    (E : ℕ) (es : List Edge) → HasEdges T es → IsEdgeCount E → length es + 1 ≡ E → IsFirstKind (AtEdge E es) bytes true kind

-- What reading the line of a leaf's point and that of a node answers: it, or the first fault that the line has.
abbrev pub FeedsPoint : List ℕ → List ℕ → Result Point DocKind → Type 0
FeedsPoint name bytes (Ok p) = IsPointForm bytes name p
FeedsPoint name bytes (Err kind) = IsFirstKind (AtPoint name) bytes true kind

abbrev pub FeedsNode : Option ℕ → List ℕ → Result NodeLine DocKind → Type 0
FeedsNode most bytes (Ok l) = IsNodeLine bytes l × DepthFits most l.depth
FeedsNode most bytes (Err kind) = IsFirstKind (AtNode most) bytes true kind
