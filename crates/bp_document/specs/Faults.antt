-- The first fault of bytes that are no document's text.
use Rattle.std.specs.Prelude.{◌≡◌, ◌≢◌, ◌⊎◌, ℕ, ◌+◌, ◌<◌, ◌≤◌, ◌==◌, List, [], ◌∷◌, ◌++◌, length, codes, count_by, All, Bool, true, false, Option, Result, Ok, Err}
use Rattle.bp_base.specs.declared.point.Sheet.TheVariants.{Square}
use Rattle.bp_base.specs.declared.point.Sheet.{Sheet}
use Rattle.bp_base.specs.declared.point.Point.{Point}
use Rattle.bp_base.specs.declared.point.Floor.{Floor}
use Rattle.bp_base.specs.Limits.{most_document_bytes, most_leaves}
use Rattle.bp_base.specs.Tree.{TreeValue, leaf_count}
use Rattle.bp_tree.specs.declared.edge.Edge.{Edge}
use Rattle.bp_tree.specs.Edges.{HasEdges, IsLength, names_of, root_children}
use Rattle.bp_tree.specs.Faults.{LacksUpper, RepeatsLower}
use Rattle.bp_document.specs.declared.document.Document.{Document}
use Rattle.bp_document.specs.declared.fault.DocKind.{DocKind}
use Rattle.bp_document.specs.declared.fault.DocKind.TheVariants.{TooLong, Trailing, Cut, BadForm, BadTree, BadPoint, BadDepth}
use Rattle.bp_document.specs.declared.fault.DocFault.{DocFault}
use Rattle.bp_document.specs.declared.fault.ReadDoc.{ReadDoc}
use Rattle.bp_document.specs.declared.fault.ReadDoc.TheVariants.{Fault, NoMemory}
use Rattle.bp_document.specs.declared.node_line.NodeLine.{NodeLine}
use Rattle.bp_document.specs.Ranges.{IsDocument}
use Rattle.bp_document.specs.Text.{doc_text, first_text}
use Rattle.bp_document.specs.Nodes.{IsNodeLine}
use Rattle.bp_document.specs.Forms.{IsLine, IsVersionLine, IsSheetLine, IsField, IsEdgeCount, IsEdgeForm, IsPointForm, IsFloorForm, IsProofForm, end_line}
use Rattle.bp_document.specs.Places.{Place, AtVersion, AtSheet, AtEdges, AtEdge, AtSide, AtBound, AtPoint, AtFloor, AtProof, AtNode, AtEnd, Behind, DepthFits, LeadsTo}

-- the line is of the form that stands at this place
abbrev pub HasForm : Place → List ℕ → Type 0
HasForm AtVersion bytes = IsVersionLine bytes
HasForm AtSheet bytes = (G : Sheet) × IsSheetLine bytes G
HasForm AtEdges bytes = (E : ℕ) × IsField (codes "edges") bytes E × IsEdgeCount E
HasForm (AtEdge E es) bytes = (e : Edge) × IsEdgeForm bytes e
HasForm AtSide bytes = (n : ℕ) × IsField (codes "side") bytes n
HasForm AtBound bytes = (n : ℕ) × IsField (codes "bound") bytes n
HasForm (AtPoint name) bytes = (other : List ℕ) × (p : Point) × IsPointForm bytes other p
HasForm AtFloor bytes = (f : Floor) × IsFloorForm bytes f
HasForm AtProof bytes = (count : Option ℕ) × IsProofForm bytes count
HasForm (AtNode most) bytes = (l : NodeLine) × IsNodeLine bytes l
HasForm AtEnd bytes = IsLine bytes end_line
HasForm Behind bytes = ⊥

-- as the last edge it makes no tree
abbrev pub MakesNoTree : List Edge → Type 0
MakesNoTree es = (T : TreeValue) × HasEdges T es × ((root_children T ≡ 1) ⊎ (most_leaves < leaf_count T))

-- the edge behind these has a fault
abbrev pub IsBadEdge : ℕ → List Edge → Edge → Type 0
IsBadEdge E es e =
    (IsLength e.length → ⊥)
    ⊎ LacksUpper (names_of es) e.upper
    ⊎ RepeatsLower (names_of es) e.upper e.lower
    ⊎ ((length es + 1 ≡ E) × MakesNoTree (es ++ e ∷ []))

-- The line at this place, which has its LF or not, has this fault.
abbrev pub HasKind : Place → List ℕ → Bool → DocKind → Type 0
HasKind place bytes ended TooLong = ⊥
HasKind Behind bytes ended Trailing = Unit {0}
HasKind place bytes ended Trailing = ⊥
HasKind place bytes false Cut = Unit {0}
HasKind place bytes true Cut = ⊥
HasKind place bytes ended BadForm = HasForm place bytes → ⊥
HasKind (AtEdge E es) bytes ended BadTree = (e : Edge) × IsEdgeForm bytes e × IsBadEdge E es e
HasKind place bytes ended BadTree = ⊥
HasKind (AtPoint name) bytes ended BadPoint = (other : List ℕ) × (p : Point) × IsPointForm bytes other p × (other ≢ name)
HasKind place bytes ended BadPoint = ⊥
HasKind (AtNode most) bytes ended BadDepth = (l : NodeLine) × IsNodeLine bytes l × (DepthFits most l.depth → ⊥)
HasKind place bytes ended BadDepth = ⊥

-- the order of the kinds
abbrev pub order : DocKind → ℕ
order TooLong = 0
order Trailing = 1
order Cut = 2
order BadForm = 3
order BadTree = 4
order BadPoint = 5
order BadDepth = 6

-- the first kind, in this order, that the line has
pub record IsFirstKind (place : Place) (bytes : List ℕ) (ended : Bool) (kind : DocKind) : Type 0 where
  pub has : HasKind place bytes ended kind
  pub first : (other : DocKind) → order other < order kind → HasKind place bytes ended other → ⊥

-- The bytes are this text, and then this line, without its LF where it is ended, and maybe more.
abbrev pub HasLine : List ℕ → List ℕ → List ℕ → Bool → Type 0
HasLine bytes text line true = (more : List ℕ) × (bytes ≡ text ++ line ++ 10 ∷ more)
HasLine bytes text line false = bytes ≡ text ++ line

-- The line of the bytes behind a text without fault has this fault. The end of input is one only where a line is wanted.
pub record IsFaultAt (bytes : List ℕ) (f : DocFault) : Type 0 where
  pub short : length bytes ≤ most_document_bytes
  pub text : List ℕ
  pub line : List ℕ
  pub ended : Bool
  pub place : Place
  pub leads : LeadsTo text place
  pub stands : HasLine bytes text line ended
  pub free : All (λ b. b ≢ 10) line
  pub number : f.line ≡ count_by (λ b. b == 10) text + 1
  pub kind : IsFirstKind place line ended f.kind
  pub wanted : (place ≡ Behind) × (line ≡ []) × (ended ≡ false) → ⊥

-- the whole is too long
abbrev pub IsTooLong : List ℕ → DocFault → Type 0
IsTooLong bytes f = (most_document_bytes < length bytes) × (f ≡ record { line = 0; kind = TooLong })

abbrev pub IsDocFault : List ℕ → DocFault → Type 0
IsDocFault bytes f = IsTooLong bytes f ⊎ IsFaultAt bytes f

-- the bytes are a text of D, in one of the versions
pub record IsTextOf (bytes : List ℕ) (D : Document) : Type 0 where
  pub short : length bytes ≤ most_document_bytes
  pub document : IsDocument D
  pub text : ((bytes ≡ first_text D) × (D.sheet ≡ Square)) ⊎ (bytes ≡ doc_text D)

-- What reading answers: the document of the bytes, or their first fault, and then they are a text of none.
abbrev pub ReadsDocument : List ℕ → Result Document ReadDoc → Type 0
ReadsDocument bytes (Ok D) = IsTextOf bytes D
ReadsDocument bytes (Err (Fault f)) = IsDocFault bytes f × ((D : Document) → IsTextOf bytes D → ⊥)
ReadsDocument bytes (Err NoMemory) = Unit

-- No other document and no other fault is that of the bytes.
abbrev pub IsOnlyAnswer : List ℕ → Result Document ReadDoc → Type 0
IsOnlyAnswer bytes (Ok D) = ((E : Document) → IsTextOf bytes E → E ≡ D) × ((f : DocFault) → IsDocFault bytes f → ⊥)
IsOnlyAnswer bytes (Err (Fault f)) = (g : DocFault) → IsDocFault bytes g → g ≡ f
IsOnlyAnswer bytes (Err NoMemory) = Unit

-- Bytes are the text of at most one document, or have at most one first fault, and not both.
pub record HasOneAnswer (bytes : List ℕ) : Type 0 where
  pub document : (D E : Document) → IsTextOf bytes D → IsTextOf bytes E → D ≡ E
  pub either : (D : Document) (f : DocFault) → IsTextOf bytes D → IsDocFault bytes f → ⊥
  pub fault : (f g : DocFault) → IsDocFault bytes f → IsDocFault bytes g → f ≡ g
