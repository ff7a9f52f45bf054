-- Where a line stands, and which text leads there.
use Rattle.std.specs.Prelude.{◌≡◌, ◌⊎◌, ℕ, ◌+◌, ◌<◌, ◌≤◌, List, [], ◌∷◌, ◌++◌, length, decimal, codes, All, Option, None, Some}
use Rattle.std.specs.List.{flat_map}
use Rattle.bp_base.specs.declared.point.Sheet.{Sheet}
use Rattle.bp_base.specs.declared.point.Sheet.TheVariants.{Square}
use Rattle.bp_base.specs.Limits.{most_number, most_steps}
use Rattle.bp_base.specs.Tree.{TreeValue, IsTree, leaf_count, leaf_node, name_of}
use Rattle.bp_metric.specs.Metric.{IsSheet}
use Rattle.bp_tree.specs.declared.edge.Edge.{Edge}
use Rattle.bp_tree.specs.Edges.{HasEdges, IsGrowing}
use Rattle.bp_document.specs.declared.head.Head.{Head}
use Rattle.bp_document.specs.declared.node_line.NodeKind.{NodeKind}
use Rattle.bp_document.specs.declared.node_line.NodeKind.TheVariants.{Split, Closed, Open}
use Rattle.bp_document.specs.declared.node_line.NodeLine.{NodeLine}
use Rattle.bp_document.specs.Lines.{line, sheet_line, floor_line}
use Rattle.bp_document.specs.Text.{edge_lines, point_lines}
use Rattle.bp_base.specs.Point.{IsSmallPoint}
use Rattle.bp_document.specs.Ranges.{IsFloorLine}
use Rattle.bp_document.specs.Nodes.{IsKindOfNumbers, node_text}
use Rattle.bp_document.specs.Forms.{version_line, edge_text, proof_line, end_line, IsEdgeCount, IsProofCount}

-- The place of a line, with what its form and its faults hang on.
pub data Place : Type 0 where
  AtVersion : Place
  AtSheet : Place
  AtEdges : Place
  -- of so many edges, behind these
  AtEdge : ℕ → List Edge → Place
  AtSide : Place
  AtBound : Place
  -- of the leaf of this name
  AtPoint : List ℕ → Place
  AtFloor : Place
  AtProof : Place
  -- the first, or one that may be as deep as this behind the node before it
  AtNode : Option ℕ → Place
  AtEnd : Place
  -- behind the line `end`
  Behind : Place

-- the lines before those of the edges, in both versions
abbrev pub IsStart : List ℕ → Sheet → Type 0
IsStart text G = ((text ≡ version_line 1) × (G ≡ Square)) ⊎ ((text ≡ version_line 2 ++ sheet_line G) × IsSheet G)

-- the text is a start for this sheet and then this part
abbrev pub StartsThen : List ℕ → Sheet → List ℕ → Type 0
StartsThen text G part = (start : List ℕ) × IsStart start G × (text ≡ start ++ part)

-- the edges so far have no fault
abbrev pub IsGrown : List Edge → Type 0
IsGrown es = (T : TreeValue) × HasEdges T es × IsGrowing T

-- the parts behind the start
abbrev pub edges_part : ℕ → List Edge → List ℕ
edges_part E es = line (codes "edges") (decimal E ∷ []) ++ flat_map edge_text es

abbrev pub side_part : Head → List ℕ
side_part H = edge_lines H.tree ++ line (codes "side") (decimal H.side ∷ [])

abbrev pub points_part : Head → List ℕ
points_part H = side_part H ++ line (codes "bound") (decimal H.bound ∷ []) ++ point_lines H.tree H.points

abbrev pub floor_part : Head → List ℕ
floor_part H = points_part H ++ floor_line H.floor

abbrev pub nodes_part : Head → List NodeLine → List ℕ
nodes_part H ns = floor_part H ++ proof_line H.proof ++ flat_map node_text ns

-- the parts of a head up to its points
pub record HasPoints (H : Head) : Type 0 where
  pub tree : IsTree H.tree
  pub side : H.side ≤ most_number
  pub bound : H.bound ≤ most_number
  pub points : All IsSmallPoint H.points

pub record IsHead (H : Head) : Type 0 where
  pub points : HasPoints H
  pub each : length H.points ≡ leaf_count H.tree
  pub floor : IsFloorLine H.floor
  pub proof : IsProofCount H.proof

-- the name of the leaf whose point comes next
abbrev pub next_leaf : Head → List ℕ
next_leaf H = name_of H.tree (leaf_node H.tree (length H.points + 1))

-- how deep the node behind one of this kind and depth may be
abbrev pub deepest : NodeKind → ℕ → ℕ
deepest (Split p) depth = depth + 1
deepest (Closed claim) depth = depth
deepest (Open claim) depth = depth

-- A node of this depth may stand here: the root first, and then a child of a split, or of a node further up.
abbrev pub DepthFits : Option ℕ → ℕ → Type 0
DepthFits None depth = depth ≡ 0
DepthFits (Some most) depth = (1 ≤ depth) × (depth ≤ most) × (depth ≤ most_steps)

-- each node fits behind the one before it
abbrev pub Follow : Option ℕ → List NodeLine → Type 0
Follow most [] = Unit {0}
Follow most (l ∷ ls) = IsKindOfNumbers l.kind × DepthFits most l.depth × Follow (Some (deepest l.kind l.depth)) ls

-- how deep the node behind these may be
abbrev pub deepest_behind : Option ℕ → List NodeLine → Option ℕ
deepest_behind most [] = most
deepest_behind most (l ∷ ls) = deepest_behind (Some (deepest l.kind l.depth)) ls

abbrev pub count_of : Option ℕ → ℕ
count_of None = 0
count_of (Some count) = count

-- The text has no fault so far, and leads to this place.
abbrev pub LeadsTo : List ℕ → Place → Type 0
LeadsTo text AtVersion = text ≡ []
LeadsTo text AtSheet = text ≡ version_line 2
LeadsTo text AtEdges = (G : Sheet) × IsStart text G
LeadsTo text (AtEdge E es) = (G : Sheet) × StartsThen text G (edges_part E es) × IsEdgeCount E × (length es < E) × IsGrown es
LeadsTo text AtSide = (H : Head) × StartsThen text H.sheet (edge_lines H.tree) × IsTree H.tree
LeadsTo text AtBound = (H : Head) × StartsThen text H.sheet (side_part H) × IsTree H.tree × (H.side ≤ most_number)
LeadsTo text (AtPoint name) =
    (H : Head) × StartsThen text H.sheet (points_part H) × HasPoints H × (length H.points < leaf_count H.tree) × (name ≡ next_leaf H)
LeadsTo text AtFloor = (H : Head) × StartsThen text H.sheet (points_part H) × HasPoints H × (length H.points ≡ leaf_count H.tree)
LeadsTo text AtProof =
    (H : Head) × StartsThen text H.sheet (floor_part H) × HasPoints H × (length H.points ≡ leaf_count H.tree) × IsFloorLine H.floor
LeadsTo text (AtNode most) =
    (H : Head) × (ns : List NodeLine) × StartsThen text H.sheet (nodes_part H ns) × IsHead H × Follow None ns × (length ns < count_of H.proof) × (most ≡ deepest_behind None ns)
LeadsTo text AtEnd =
    (H : Head) × (ns : List NodeLine) × StartsThen text H.sheet (nodes_part H ns) × IsHead H × Follow None ns × (length ns ≡ count_of H.proof)
LeadsTo text Behind =
    (H : Head) × (ns : List NodeLine) × StartsThen text H.sheet (nodes_part H ns ++ end_line) × IsHead H × Follow None ns × (length ns ≡ count_of H.proof)
