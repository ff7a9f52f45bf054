-- What a scanner was fed, and what it answers to a line, to a question for the head, and to the end of input.
use Rattle.std.specs.Prelude.{◌≡◌, ◌⊎◌, ℕ, ◌+◌, ◌<◌, List, [], ◌∷◌, ◌++◌, length, Bool, true, false, Option, None, Some, Result, Ok, Err}
use Rattle.bp_tree.specs.declared.edge.Edge.{Edge}
use Rattle.bp_document.specs.declared.fault.DocKind.{DocKind}
use Rattle.bp_document.specs.declared.fault.DocKind.TheVariants.{Cut}
use Rattle.bp_document.specs.declared.fault.DocFault.{DocFault}
use Rattle.bp_document.specs.declared.fault.ReadDoc.{ReadDoc}
use Rattle.bp_document.specs.declared.fault.ReadDoc.TheVariants.{Fault, NoMemory}
use Rattle.bp_document.specs.Forms.{end_line}
use Rattle.bp_document.specs.Scanning.{line_count}
use Rattle.bp_certificate.specs.declared.certificate.CertificateHead.{CertificateHead}
use Rattle.bp_certificate.specs.declared.certificate.Lemma.{Lemma}
use Rattle.bp_certificate.specs.declared.stage.Stage.{Stage}
use Rattle.bp_certificate.specs.Text.{certificate_text}
use Rattle.bp_certificate.specs.Ranges.{IsCertificate, most_line_bytes}
use Rattle.bp_certificate.specs.Places.{Place, AtLemma, AtEnd, Behind, LeadsTo, LeadsToLemmas, certificate_of}
use Rattle.bp_certificate.specs.Faults.{HasForm, IsFirstKind}
use Rattle.bp_certificate.specs.Stages.{Stands, IsWhole, told_head, with_lemma, GivesLemma}

-- How many lines a scanner was fed without fault, and what they told.
pub record Progress : Type 0 where
  pub lines : ℕ
  pub stage : Stage

-- no feed has given a fault or lacked memory
abbrev pub IsUnbroken : Progress → Type 0
IsUnbroken P = IsWhole P.stage

-- The lines fed are this text, each with its LF, without a fault, and these are its lemmas.
pub record HasFed (P : Progress) (text : List ℕ) (ls : List Lemma) : Type 0 where
  pub edges : List Edge
  pub stands : Stands text edges ls P.stage
  pub count : P.lines ≡ line_count text

-- The line behind this text has this fault, which is the first that it has.
pub record IsFaultBehind (text line : List ℕ) (ended : Bool) (f : DocFault) : Type 0 where
  pub place : Place
  pub leads : LeadsTo text place
  pub number : f.line ≡ line_count text + 1
  pub kind : IsFirstKind place line ended f.kind

-- The line behind this text is of the form that stands there, and gives this lemma.
pub record IsFineBehind (text line : List ℕ) (lemma : Option Lemma) : Type 0 where
  pub place : Place
  pub leads : LeadsTo text place
  pub form : HasForm place line
  pub gives : GivesLemma place line lemma

-- What a line does: it was fed too and maybe gives a lemma, and a head that was told stays; or it has this first fault. Only memory may lack.
abbrev pub FeedsLine : Progress → List ℕ → Bool → Progress → Result (Option Lemma) ReadDoc → Type 0
FeedsLine P line ended P' (Ok lemma) =
    (ended ≡ true)
    × IsUnbroken P'
    × ((H : CertificateHead) → told_head P.stage ≡ Some H → told_head P'.stage ≡ Some H)
    × ((text : List ℕ) (ls : List Lemma) → HasFed P text ls → HasFed P' (text ++ (line ++ 10 ∷ [])) (with_lemma ls lemma))
    × ((text : List ℕ) (ls : List Lemma) → HasFed P text ls → IsFineBehind text line lemma)
FeedsLine P line ended P' (Err (Fault f)) = (text : List ℕ) (ls : List Lemma) → HasFed P text ls → IsFaultBehind text line ended f
FeedsLine P line ended P' (Err NoMemory) = Unit {0}

-- a place before the lemma lines and the end
abbrev pub IsBeforeLemmas : Place → Type 0
IsBeforeLemmas AtLemma = ⊥
IsBeforeLemmas AtEnd = ⊥
IsBeforeLemmas Behind = ⊥
IsBeforeLemmas place = Unit {0}

-- What a head says of a text with these lemmas: all that stands before them; there is none exactly before they begin.
abbrev pub TellsHead : List ℕ → List Lemma → Option CertificateHead → Type 0
TellsHead text ls (Some H) = (before : List ℕ) × ((text ≡ before) ⊎ (text ≡ before ++ end_line)) × LeadsToLemmas before H ls
TellsHead text ls None = (place : Place) × LeadsTo text place × IsBeforeLemmas place × (ls ≡ [])

abbrev pub HasTold : Progress → Type 0
HasTold P = (text : List ℕ) (ls : List Lemma) → HasFed P text ls → TellsHead text ls (told_head P.stage)

-- The text is that of the certificate of this head and these lemmas.
pub record IsCertificateFed (text : List ℕ) (ls : List Lemma) (answer : Option CertificateHead) : Type 0 where
  pub told : CertificateHead
  pub head : answer ≡ Some told
  pub certificate : IsCertificate (certificate_of told ls)
  pub is : text ≡ certificate_text (certificate_of told ls)

-- What the end of input gives: the certificate is whole, or Cut.
abbrev pub FinishesText : Progress → Result Unit DocFault → Type 0
FinishesText P (Ok done) = (text : List ℕ) (ls : List Lemma) → HasFed P text ls → IsCertificateFed text ls (told_head P.stage)
FinishesText P (Err f) = (f.kind ≡ Cut) × ((text : List ℕ) (ls : List Lemma) → HasFed P text ls → IsFaultBehind text [] false f)

-- longer than the line of any form
abbrev pub IsLongLine : List ℕ → Type 0
IsLongLine line = most_line_bytes < length line

abbrev pub IsTooLongForAll : List ℕ → Type 0
IsTooLongForAll line = IsLongLine line → (place : Place) → HasForm place line → ⊥

-- Where two lines are both too long, and both have their LF or neither has, they have the same fault.
abbrev pub HasSameFault : List ℕ → List ℕ → Type 0
HasSameFault line other =
    IsLongLine line → IsLongLine other → (place : Place) (ended : Bool) (kind : DocKind) → IsFirstKind place line ended kind → IsFirstKind place other ended kind
