-- What a scanner was fed, and what it answers to a line, to a question for the head, and to the end of input.
use Rattle.std.specs.Prelude.{◌≡◌, ◌⊎◌, ℕ, ◌+◌, ◌<◌, ◌≤◌, ◌==◌, List, [], ◌∷◌, ◌++◌, length, count_by, Bool, true, false, Option, None, Some, Result, Ok, Err}
use Rattle.bp_base.specs.Limits.{most_document_bytes}
use Rattle.bp_tree.specs.declared.edge.Edge.{Edge}
use Rattle.bp_document.specs.declared.document.Document.{Document}
use Rattle.bp_document.specs.declared.fault.DocKind.{DocKind}
use Rattle.bp_document.specs.declared.fault.DocKind.TheVariants.{Cut}
use Rattle.bp_document.specs.declared.fault.DocFault.{DocFault}
use Rattle.bp_document.specs.declared.head.Head.{Head}
use Rattle.bp_document.specs.declared.node_line.NodeLine.{NodeLine}
use Rattle.bp_document.specs.declared.scanner.TheConstants.{MOST_LINE}
use Rattle.bp_document.specs.declared.stage.Stage.{Stage}
use Rattle.bp_document.specs.Forms.{end_line}
use Rattle.bp_document.specs.Places.{Place, AtNode, AtEnd, Behind, Follow, IsHead, LeadsTo, StartsThen, nodes_part, count_of}
use Rattle.bp_document.specs.Faults.{HasForm, IsFirstKind, IsTextOf}
use Rattle.bp_document.specs.Stages.{Stands, IsBeforeNodes, IsWhole, told_head, with_node, GivesNode}
use Rattle.bp_document.specs.Told.{IsToldBy}

-- How many lines a scanner was fed without fault, and what they told.
pub record Progress : Type 0 where
  pub lines : ℕ
  pub stage : Stage

-- no feed has given a fault
abbrev pub IsUnbroken : Progress → Type 0
IsUnbroken P = IsWhole P.stage

-- how many lines a text has that all end with LF
abbrev pub line_count : List ℕ → ℕ
line_count text = count_by (λ b. b == 10) text

-- The lines fed are this text, each with its LF, without a fault, and these are its nodes.
pub record HasFed (P : Progress) (text : List ℕ) (ns : List NodeLine) : Type 0 where
  pub edges : List Edge
  pub stands : Stands text edges ns P.stage
  pub none : IsBeforeNodes P.stage → ns ≡ []
  pub count : P.lines ≡ line_count text
  pub follow : Follow None ns

-- The line behind this text has this fault, which is the first that it has.
pub record IsFaultBehind (text line : List ℕ) (ended : Bool) (f : DocFault) : Type 0 where
  pub place : Place
  pub leads : LeadsTo text place
  pub number : f.line ≡ line_count text + 1
  pub kind : IsFirstKind place line ended f.kind

-- The line behind this text is of the form that stands there, and gives this node.
pub record IsFineBehind (text line : List ℕ) (node : Option NodeLine) : Type 0 where
  pub place : Place
  pub leads : LeadsTo text place
  pub form : HasForm place line
  pub gives : GivesNode place line node

-- What a line does: it was fed too and maybe gives a node, or it has this first fault.
abbrev pub FeedsLine : Progress → List ℕ → Bool → Progress → Result (Option NodeLine) DocFault → Type 0
FeedsLine P line ended P' (Ok node) =
    (ended ≡ true)
    × IsUnbroken P'
    × ((text : List ℕ) (ns : List NodeLine) → HasFed P text ns → HasFed P' (text ++ (line ++ 10 ∷ [])) (with_node ns node))
    × ((text : List ℕ) (ns : List NodeLine) → HasFed P text ns → IsFineBehind text line node)
FeedsLine P line ended P' (Err f) =
    (told_head P'.stage ≡ told_head P.stage)
    × ((text : List ℕ) (ns : List NodeLine) → HasFed P text ns → IsFaultBehind text line ended f)

-- a place before the node lines and the end
abbrev pub IsBeforeProof : Place → Type 0
IsBeforeProof (AtNode most) = ⊥
IsBeforeProof AtEnd = ⊥
IsBeforeProof Behind = ⊥
IsBeforeProof place = Unit {0}

-- What a head says of a text with these nodes: all that stands before them; there is none exactly before the proof line.
abbrev pub TellsHead : List ℕ → List NodeLine → Option Head → Type 0
TellsHead text ns (Some H) = (StartsThen text H.sheet (nodes_part H ns) ⊎ StartsThen text H.sheet (nodes_part H ns ++ end_line)) × IsHead H × Follow None ns
TellsHead text ns None = (place : Place) × LeadsTo text place × IsBeforeProof place × (ns ≡ [])

abbrev pub HasTold : Progress → Type 0
HasTold P = (text : List ℕ) (ns : List NodeLine) → HasFed P text ns → TellsHead text ns (told_head P.stage)

-- The text is that of a document, which has this head and these nodes.
pub record IsDocumentFed (text : List ℕ) (ns : List NodeLine) (answer : Option Head) : Type 0 where
  pub document : Document
  pub told : Head
  pub head : answer ≡ Some told
  pub is : IsToldBy document told ns
  pub whole : length text ≤ most_document_bytes → IsTextOf text document

-- What the end of input gives: the document is whole, or Cut.
abbrev pub FinishesText : Progress → Result Unit DocFault → Type 0
FinishesText P (Ok done) = (text : List ℕ) (ns : List NodeLine) → HasFed P text ns → IsDocumentFed text ns (told_head P.stage)
FinishesText P (Err f) = (f.kind ≡ Cut) × ((text : List ℕ) (ns : List NodeLine) → HasFed P text ns → IsFaultBehind text [] false f)

-- The whole text is that of this head, these nodes and the line `end`.
abbrev pub IsWholeText : List ℕ → List NodeLine → Head → Type 0
IsWholeText text ns H = StartsThen text H.sheet (nodes_part H ns ++ end_line) × IsHead H × Follow None ns × (length ns ≡ count_of H.proof)

-- What the end of input gives, with the head.
abbrev pub GivesHead : Progress → Result Head DocFault → Type 0
GivesHead P (Ok H) = (text : List ℕ) (ns : List NodeLine) → HasFed P text ns → IsWholeText text ns H
GivesHead P (Err f) = FinishesText P (Err f)

-- the most bytes of a line, which is written once, as a constant of the code
abbrev pub most_line : ℕ
most_line = MOST_LINE

-- longer than the line of any form
abbrev pub IsLongLine : List ℕ → Type 0
IsLongLine line = most_line < length line

abbrev pub IsTooLongForAll : List ℕ → Type 0
IsTooLongForAll line = IsLongLine line → (place : Place) → HasForm place line → ⊥

-- Where two lines are both too long, and both have their LF or neither has, they have the same fault.
abbrev pub HasSameFault : List ℕ → List ℕ → Type 0
HasSameFault line other =
    IsLongLine line → IsLongLine other → (place : Place) (ended : Bool) (kind : DocKind) → IsFirstKind place line ended kind → IsFirstKind place other ended kind
