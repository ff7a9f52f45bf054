-- What a check in one pass has taken of a document.
use Rattle.std.specs.Prelude.{◌≡◌, ◌≢◌, ◌⊎◌, ℕ, ◌≤◌, List, [], ◌∷◌, ◌++◌, length, take, All, Bool, true, false, Option, None, Some, Result, Ok, Err}
use Rattle.bp_base.specs.Limits.{most_document_bytes}
use Rattle.bp_base.specs.Tree.{TreeValue}
use Rattle.bp_base.specs.declared.point.Sheet.{Sheet}
use Rattle.bp_document.specs.declared.fault.DocFault.{DocFault}
use Rattle.bp_document.specs.declared.node_line.NodeLine.{NodeLine}
use Rattle.bp_document.specs.Faults.{HasLine, IsDocFault}
use Rattle.bp_document.specs.Places.{StartsThen}
use Rattle.bp_document.specs.Scanning.{HasFed, IsUnbroken, IsFaultBehind, IsDocumentFed}
use Rattle.bp_document.specs.Stages.{told_head}
use Rattle.bp_check.specs.declared.intake.Intake.{Intake}
use Rattle.bp_check.specs.declared.fault.Streamed.{Streamed}
use Rattle.bp_check.specs.Stack.{HasTaken}
use Rattle.bp_check.specs.Streams.{ChecksText, IsRefused}
use Rattle.bp_check.specs.Held.{most_held}

-- the text begins as one for this sheet
abbrev pub Starts : List ℕ → Sheet → Type 0
Starts text G = (part : List ℕ) × StartsThen text G part

-- The scanner was fed this text of all these nodes, and the stack has taken those of them that are judged, on the sheet that the text begins with.
pub record IsScanned (T : TreeValue) (p : Intake) (text : List ℕ) (all judged : List NodeLine) : Type 0 where
  pub unbroken : IsUnbroken p.scanner
  pub fed : HasFed p.scanner text all
  pub tree : p.metric.tree ≡ T
  pub taken : HasTaken T p.metric.sheet p.stack judged
  pub sheet : (judged ≡ []) ⊎ Starts text p.metric.sheet

abbrev pub HasScanned : Intake → Type 0
HasScanned p = (T : TreeValue) × (text : List ℕ) × (all : List NodeLine) × (judged : List NodeLine) × IsScanned T p text all judged

-- the last node is still to be judged
abbrev pub IsAhead : Intake → NodeLine → Type 0
IsAhead p node = (T : TreeValue) × (text : List ℕ) × (ns : List NodeLine) × IsScanned T p text (ns ++ node ∷ []) ns

-- A line of the bytes has this fault, whatever follows.
pub record HasLineFault (bytes : List ℕ) (f : DocFault) : Type 0 where
  pub text : List ℕ
  pub line : List ℕ
  pub stands : HasLine bytes text line true
  pub free : All (λ b. b ≢ 10) line
  pub fault : IsFaultBehind text line true f

-- The bytes are whole lines without a fault, and then the line that is held, or one of them has a fault.
abbrev pub TakenInTo : TreeValue → Intake → List ℕ → Option DocFault → Type 0
TakenInTo T p bytes None =
    (text : List ℕ) × (line : List ℕ) × (ns : List NodeLine) × (bytes ≡ text ++ line) × (p.held ≡ take most_held line) × All (λ b. b ≢ 10) line × IsScanned T p text ns ns
TakenInTo T p bytes (Some f) = HasLineFault bytes f

-- these bytes were taken in
abbrev pub HasTakenIn : TreeValue → Intake → List ℕ → Type 0
HasTakenIn T p bytes = TakenInTo T p bytes p.fault

abbrev pub IsUnderway : Intake → Type 0
IsUnderway p = (T : TreeValue) × (bytes : List ℕ) × HasTakenIn T p bytes

-- the LF of a line, where it is there
abbrev pub end_of : Bool → List ℕ
end_of true = 10 ∷ []
end_of false = []

-- one that has taken bytes has taken these too
abbrev pub Takes : Intake → Intake → List ℕ → Type 0
Takes p q bytes = (T : TreeValue) (before : List ℕ) → HasTakenIn T p before → HasTakenIn T q (before ++ bytes)

-- The bytes are a document's text, with this head and these nodes, all of them judged.
pub record IsWhole (T : TreeValue) (p : Intake) (bytes : List ℕ) : Type 0 where
  pub nodes : List NodeLine
  pub scanned : IsScanned T p bytes nodes nodes
  pub document : IsDocumentFed bytes nodes (told_head p.scanner.stage)

-- What the end of input does: all was a document, or the first fault is one of the line that has no LF, or of the end.
abbrev pub EndsIntake : Intake → Intake → Result Unit DocFault → Type 0
EndsIntake p q (Ok done) = (T : TreeValue) (bytes : List ℕ) → HasTakenIn T p bytes → IsWhole T q bytes
EndsIntake p q (Err f) = (T : TreeValue) (bytes : List ℕ) → HasTakenIn T p bytes → length bytes ≤ most_document_bytes → IsDocFault bytes f

-- What is answered to these bytes, where they are all that there is.
abbrev pub AnswersText : TreeValue → List ℕ → Result Streamed DocFault → Type 0
AnswersText T bytes (Ok s) = ChecksText T bytes s
AnswersText T bytes (Err f) = IsRefused bytes f
