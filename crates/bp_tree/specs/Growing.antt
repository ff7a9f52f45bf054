-- Growing a tree edge by edge: what `Grower` answers.
use Rattle.std.specs.Prelude.{◌≡◌, ◌<◌, ◌≤◌, List, [], ◌∷◌, ◌++◌, Result, Ok, Err}
use Rattle.bp_base.specs.Limits.{most_leaves}
use Rattle.bp_base.specs.Tree.{TreeValue, IsTree, leaf_count, node_count}
use Rattle.bp_tree.specs.declared.edge.Edge.{Edge}
use Rattle.bp_tree.specs.declared.fault.TreeKind.{TreeKind}
use Rattle.bp_tree.specs.declared.fault.TreeKind.TheVariants.{UnknownParent, RepeatedName, TooManyNodes, Empty, RootIsLeaf, TooManyLeaves}
use Rattle.bp_tree.specs.Edges.{HasEdges, root_children}
use Rattle.bp_tree.specs.Faults.{LacksUpper, RepeatsLower, IsFull}

-- a tree before its first edge
abbrev pub no_nodes : TreeValue
no_nodes = record { parents = []; lengths = []; names = [] }

-- What adding an edge answers: T' has it behind the edges of T, or the first fault that it has.
abbrev pub AddsEdge : TreeValue → Edge → TreeValue → Result Unit TreeKind → Type 0
AddsEdge T e T' (Ok done) = (es : List Edge) → HasEdges T es → HasEdges T' (es ++ e ∷ [])
AddsEdge T e T' (Err UnknownParent) = LacksUpper T.names e.upper
AddsEdge T e T' (Err RepeatedName) = (LacksUpper T.names e.upper → ⊥) × RepeatsLower T.names e.upper e.lower
AddsEdge T e T' (Err TooManyNodes) =
    (LacksUpper T.names e.upper → ⊥) × (RepeatsLower T.names e.upper e.lower → ⊥) × IsFull T.names
AddsEdge T e T' (Err other) = ⊥

-- What the end of the edges answers: T itself, or the first reason why it is no tree.
abbrev pub Finishes : TreeValue → Result TreeValue TreeKind → Type 0
Finishes T (Ok U) = (U ≡ T) × IsTree T
Finishes T (Err Empty) = node_count T ≤ 1
Finishes T (Err RootIsLeaf) = root_children T ≡ 1
Finishes T (Err TooManyLeaves) = (2 ≤ root_children T) × (most_leaves < leaf_count T)
Finishes T (Err other) = ⊥
