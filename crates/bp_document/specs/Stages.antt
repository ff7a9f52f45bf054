-- What the lines fed so far have told, in the words of `LeadsTo`.
use Rattle.std.specs.Prelude.{◌≡◌, ℕ, ◌+◌, ◌≤◌, List, [], ◌∷◌, ◌++◌, length, nat_lt, Option, None, Some, Result, Ok, Err, Bool, true, false, if◌then◌else◌}
use Rattle.bp_base.specs.Limits.{most_number}
use Rattle.bp_base.specs.Tree.{IsTree, leaf_count}
use Rattle.bp_tree.specs.declared.edge.Edge.{Edge}
use Rattle.bp_tree.specs.Edges.{HasEdges, IsGrowing}
use Rattle.bp_tree.specs.Growing.{no_nodes}
use Rattle.bp_document.specs.declared.fault.DocKind.{DocKind}
use Rattle.bp_document.specs.declared.head.Head.{Head}
use Rattle.bp_document.specs.declared.node_line.NodeLine.{NodeLine}
use Rattle.bp_document.specs.declared.stage.Memory.{Memory}
use Rattle.bp_document.specs.declared.stage.Parts.{Parts}
use Rattle.bp_document.specs.declared.stage.Step.{Step}
use Rattle.bp_document.specs.declared.stage.Fall.{Fall}
use Rattle.bp_document.specs.declared.stage.Stage.{Stage}
use Rattle.bp_document.specs.declared.stage.Stage.TheVariants.{Version, Sheet as SheetStage, Edges, Edge as EdgeStage, Side, Bound, Points, Proof, Nodes, Behind as BehindStage, Broken}
use Rattle.bp_document.specs.Text.{edge_lines}
use Rattle.bp_document.specs.Nodes.{IsNodeLine}
use Rattle.bp_document.specs.Ranges.{IsFloorLine}
use Rattle.bp_document.specs.Forms.{version_line, end_line, IsEdgeCount}
use Rattle.bp_document.specs.Places.{Place, AtVersion, AtSheet, AtEdges, AtEdge, AtSide, AtBound, AtPoint, AtFloor, AtProof, AtNode, AtEnd, Behind, IsStart, StartsThen, edges_part, side_part, points_part, floor_part, nodes_part, next_leaf, HasPoints, IsHead, DepthFits, Follow, deepest_behind, count_of}
use Rattle.bp_document.specs.Faults.{HasForm, IsFirstKind}

-- the parts as those of a head, with this floor
abbrev pub head_of : Parts → ℕ → ℕ → Head
head_of p m side =
    record { tree = p.tree; side = p.side; bound = p.bound; points = p.points; floor = record { m = m; leaves = p.leaves; side = side }; proof = None; sheet = p.sheet }

abbrev pub IsFresh : Memory → Type 0
IsFresh m = (m.grower ≡ no_nodes) × IsGrowing m.grower × (m.points ≡ []) × (m.leaves ≡ [])

abbrev pub IsEmpty : Parts → Type 0
IsEmpty p = (p.points ≡ []) × (p.leaves ≡ [])

-- The text has no fault, and this is what its lines told; these are its edges as long as they are read, and then its nodes.
abbrev pub Stands : List ℕ → List Edge → List NodeLine → Stage → Type 0
Stands text es ns (Version m) = (text ≡ []) × IsFresh m
Stands text es ns (SheetStage m) = (text ≡ version_line 2) × IsFresh m
Stands text es ns (Edges G m) = IsStart text G × IsFresh m
Stands text es ns (EdgeStage G count left m) =
    StartsThen text G (edges_part count es) × IsEdgeCount count × (1 ≤ left) × (length es + left ≡ count)
    × HasEdges m.grower es × IsGrowing m.grower × (m.points ≡ []) × (m.leaves ≡ [])
Stands text es ns (Side p) = StartsThen text p.sheet (edge_lines p.tree) × IsTree p.tree × IsEmpty p
Stands text es ns (Bound p) = StartsThen text p.sheet (side_part (head_of p 0 0)) × IsTree p.tree × (p.side ≤ most_number) × IsEmpty p
Stands text es ns (Points p) =
    StartsThen text p.sheet (points_part (head_of p 0 0)) × HasPoints (head_of p 0 0) × (length p.points ≤ leaf_count p.tree) × (p.leaves ≡ [])
Stands text es ns (Proof p m side) =
    StartsThen text p.sheet (floor_part (head_of p m side)) × HasPoints (head_of p m side) × (length p.points ≡ leaf_count p.tree) × IsFloorLine (record { m = m; leaves = p.leaves; side = side })
Stands text es ns (Nodes H left most) =
    StartsThen text H.sheet (nodes_part H ns) × IsHead H × Follow None ns × (length ns + left ≡ count_of H.proof) × (most ≡ deepest_behind None ns)
Stands text es ns (BehindStage H) =
    StartsThen text H.sheet (nodes_part H ns ++ end_line) × IsHead H × Follow None ns × (length ns ≡ count_of H.proof)
Stands text es ns (Broken told) = ⊥

-- no line had a fault
abbrev pub IsWhole : Stage → Type 0
IsWhole (Broken told) = ⊥
IsWhole s = Unit {0}

-- no node line is told yet
abbrev pub IsBeforeNodes : Stage → Type 0
IsBeforeNodes (Nodes H left most) = ⊥
IsBeforeNodes (BehindStage H) = ⊥
IsBeforeNodes s = Unit {0}

-- the head, from its proof line on
abbrev pub told_head : Stage → Option Head
told_head (Nodes H left most) = Some H
told_head (BehindStage H) = Some H
told_head (Broken told) = told
told_head s = None

abbrev pub place_of : Stage → List Edge → Place
place_of (Version m) es = AtVersion
place_of (SheetStage m) es = AtSheet
place_of (Edges G m) es = AtEdges
place_of (EdgeStage G count left m) es = AtEdge count es
place_of (Side p) es = AtSide
place_of (Bound p) es = AtBound
place_of (Points p) es = if nat_lt (length p.points) (leaf_count p.tree) then AtPoint (next_leaf (head_of p 0 0)) else AtFloor
place_of (Proof p m side) es = AtProof
place_of (Nodes H left most) es = if nat_lt 0 left then AtNode most else AtEnd
place_of (BehindStage H) es = Behind
place_of (Broken told) es = Behind

-- What a line that has its LF does at a stage before the nodes: it leads on to the next, or has this first fault.
abbrev pub FeedsStage : Stage → List ℕ → Result Stage DocKind → Type 0
FeedsStage s bytes (Ok s') =
    (text : List ℕ) (es : List Edge) → Stands text es [] s → (next : List Edge) × HasForm (place_of s es) bytes × Stands (text ++ (bytes ++ 10 ∷ [])) next [] s'
FeedsStage s bytes (Err kind) = (text : List ℕ) (es : List Edge) → Stands text es [] s → IsFirstKind (place_of s es) bytes true kind

-- at most so many lines lead to this stage
abbrev pub IsWithin : Stage → ℕ → Type 0
IsWithin (Version m) lines = lines ≤ 0
IsWithin (SheetStage m) lines = lines ≤ 1
IsWithin (Edges G m) lines = lines ≤ 2
IsWithin (EdgeStage G count left m) lines = lines + left ≤ 100
IsWithin (Side p) lines = lines ≤ 101
IsWithin (Bound p) lines = lines ≤ 102
IsWithin (Points p) lines = (lines ≤ 103 + length p.points) × (lines ≤ 200)
IsWithin (Proof p m side) lines = lines ≤ 201
IsWithin (Nodes H left most) lines = lines + left ≤ 900000
IsWithin (BehindStage H) lines = lines ≤ 900001
IsWithin (Broken told) lines = Unit {0}

-- one line more is within what leads to the next stage
abbrev pub IsOneMore : Stage → Result Stage DocKind → Type 0
IsOneMore s (Ok s') = IsWhole s' × ((lines : ℕ) → IsWithin s lines → IsWithin s' (lines + 1))
IsOneMore s (Err kind) = Unit {0}

-- the node that a line gives, behind the others
abbrev pub with_node : List NodeLine → Option NodeLine → List NodeLine
with_node ns None = ns
with_node ns (Some l) = ns ++ l ∷ []

-- A node is given exactly where the line is a node's.
abbrev pub GivesNode : Place → List ℕ → Option NodeLine → Type 0
GivesNode (AtNode most) bytes (Some l) = IsNodeLine bytes l × DepthFits most l.depth
GivesNode (AtNode most) bytes None = ⊥
GivesNode place bytes (Some l) = ⊥
GivesNode place bytes None = Unit {0}

-- What any line does at any stage: it leads on to the next and maybe gives a node, or has this first fault, and the head stays.
pub record StepsOn (s : Stage) (bytes : List ℕ) (step : Step) : Type 0 where
  pub whole : IsWhole step.stage
  pub before : IsBeforeNodes step.stage → IsBeforeNodes s × (step.node ≡ None)
  pub within : (lines : ℕ) → IsWithin s lines → IsWithin step.stage (lines + 1)
  pub on : (text : List ℕ) (es : List Edge) (ns : List NodeLine) → Stands text es ns s → (IsBeforeNodes s → ns ≡ []) → (next : List Edge) × HasForm (place_of s es) bytes × GivesNode (place_of s es) bytes step.node × Stands (text ++ (bytes ++ 10 ∷ [])) next (with_node ns step.node) step.stage

abbrev pub Steps : Stage → List ℕ → Bool → Result Step Fall → Type 0
Steps s bytes ended (Ok step) = (ended ≡ true) × StepsOn s bytes step
Steps s bytes ended (Err fall) =
    (fall.head ≡ told_head s)
    × ((text : List ℕ) (es : List Edge) (ns : List NodeLine) → Stands text es ns s → (IsBeforeNodes s → ns ≡ []) → IsFirstKind (place_of s es) bytes ended fall.kind)

-- the same as a step, which gives no node and has no head
abbrev pub IsPlain : Result Stage DocKind → Result Step Fall → Type 0
IsPlain (Ok s) r = r ≡ Ok (record { stage = s; node = None })
IsPlain (Err kind) r = r ≡ Err (record { head = None; kind = kind })

-- The first fault of any line without LF at this stage.
abbrev pub Cuts : Stage → Fall → Type 0
Cuts s fall = (fall.head ≡ told_head s) × ((bytes : List ℕ) (es : List Edge) → IsFirstKind (place_of s es) bytes false fall.kind)
