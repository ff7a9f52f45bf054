-- The first fault of bytes that are no certificate's text. The kinds are those of a document, of which depths have none here.
use Rattle.std.specs.Prelude.{◌≡◌, ◌≢◌, ◌⊎◌, ℕ, ◌+◌, ◌<◌, ◌≤◌, ◌==◌, List, [], length, count_by, All, Bool, false, Option, Result, Ok, Err}
use Rattle.bp_base.specs.declared.path.Pair.{Pair}
use Rattle.bp_base.specs.declared.point.Sheet.{Sheet}
use Rattle.bp_base.specs.Limits.{most_document_bytes}
use Rattle.bp_document.specs.declared.fault.DocKind.{DocKind}
use Rattle.bp_document.specs.declared.fault.DocKind.TheVariants.{Trailing, Cut, BadForm}
use Rattle.bp_document.specs.declared.fault.DocFault.{DocFault}
use Rattle.bp_document.specs.declared.fault.ReadDoc.{ReadDoc}
use Rattle.bp_document.specs.declared.fault.ReadDoc.TheVariants.{Fault, NoMemory}
use Rattle.bp_document.specs.Forms.{IsLine, IsSheetLine, version_line, end_line}
use Rattle.bp_document.specs.Faults.{HasForm as HasDocForm, HasKind as HasDocKind, HasLine, IsTooLong, order}
use Rattle.bp_certificate.specs.declared.certificate.Certificate.{Certificate}
use Rattle.bp_certificate.specs.declared.certificate.Lemma.{Lemma}
use Rattle.bp_certificate.specs.Lines.{mirror_line, swaps_line}
use Rattle.bp_certificate.specs.Text.{certificate_text}
use Rattle.bp_certificate.specs.Ranges.{IsCertificate, most_swaps}
use Rattle.bp_certificate.specs.Words.{IsLemmaForm, IsSwapForm, IsCornerForm, IsCountForm}
use Rattle.bp_certificate.specs.Places.{Place, AtVersion, AtSheet, AtMirror, InBody, AtCount, AtCorner, AtSwapCount, AtSwap, AtLemma, AtEnd, Behind, LeadsTo}

-- the line is of the form that stands at this place
abbrev pub HasForm : Place → List ℕ → Type 0
HasForm AtVersion bytes = IsLine bytes (version_line 3)
HasForm AtSheet bytes = (G : Sheet) × IsSheetLine bytes G
HasForm AtMirror bytes = IsLine bytes mirror_line
HasForm (InBody place) bytes = HasDocForm place bytes
HasForm AtCount bytes = (count : Option ℕ) × IsCountForm bytes count
HasForm AtCorner bytes = (corner : Option Pair) × IsCornerForm bytes corner
HasForm AtSwapCount bytes = (total : ℕ) × (total ≤ most_swaps) × IsLine bytes (swaps_line total)
HasForm AtSwap bytes = (swap : List Pair) × IsSwapForm bytes swap
HasForm AtLemma bytes = (l : Lemma) × IsLemmaForm bytes l
HasForm AtEnd bytes = IsLine bytes end_line
HasForm Behind bytes = ⊥

-- the faults of a line of this form: it lacks its LF, or isn't of the form
abbrev pub HasOwnKind : Type 0 → DocKind → Bool → Type 0
HasOwnKind Form Cut false = Unit {0}
HasOwnKind Form BadForm ended = Form → ⊥
HasOwnKind Form kind ended = ⊥

-- The line at this place, which has its LF or not, has this fault.
abbrev pub HasKind : Place → List ℕ → Bool → DocKind → Type 0
HasKind (InBody place) bytes ended kind = HasDocKind place bytes ended kind
HasKind Behind bytes ended kind = kind ≡ Trailing
HasKind place bytes ended kind = HasOwnKind (HasForm place bytes) kind ended

-- the first kind, in the order of a document's, that the line has
pub record IsFirstKind (place : Place) (bytes : List ℕ) (ended : Bool) (kind : DocKind) : Type 0 where
  pub has : HasKind place bytes ended kind
  pub first : (other : DocKind) → order other < order kind → HasKind place bytes ended other → ⊥

-- The line of the bytes behind a text without fault has this fault. The end of input is one only where a line is wanted.
pub record IsFaultAt (bytes : List ℕ) (f : DocFault) : Type 0 where
  pub short : length bytes ≤ most_document_bytes
  pub text : List ℕ
  pub line : List ℕ
  pub ended : Bool
  pub place : Place
  pub leads : LeadsTo text place
  pub stands : HasLine bytes text line ended
  pub free : All (λ b. b ≢ 10) line
  pub number : f.line ≡ count_by (λ b. b == 10) text + 1
  pub kind : IsFirstKind place line ended f.kind
  pub wanted : (place ≡ Behind) × (line ≡ []) × (ended ≡ false) → ⊥

abbrev pub IsCertificateFault : List ℕ → DocFault → Type 0
IsCertificateFault bytes f = IsTooLong bytes f ⊎ IsFaultAt bytes f

-- the bytes are the text of C
pub record IsTextOf (bytes : List ℕ) (C : Certificate) : Type 0 where
  pub short : length bytes ≤ most_document_bytes
  pub certificate : IsCertificate C
  pub text : bytes ≡ certificate_text C

-- What reading answers: the certificate of the bytes, or their first fault, and then they are the text of none.
abbrev pub ReadsCertificate : List ℕ → Result Certificate ReadDoc → Type 0
ReadsCertificate bytes (Ok C) = IsTextOf bytes C
ReadsCertificate bytes (Err (Fault f)) = IsCertificateFault bytes f × ((C : Certificate) → IsTextOf bytes C → ⊥)
ReadsCertificate bytes (Err NoMemory) = Unit {0}

-- No other certificate and no other fault is that of the bytes.
abbrev pub IsOnlyAnswer : List ℕ → Result Certificate ReadDoc → Type 0
IsOnlyAnswer bytes (Ok C) = ((E : Certificate) → IsTextOf bytes E → E ≡ C) × ((f : DocFault) → IsCertificateFault bytes f → ⊥)
IsOnlyAnswer bytes (Err (Fault f)) = (g : DocFault) → IsCertificateFault bytes g → g ≡ f
IsOnlyAnswer bytes (Err NoMemory) = Unit {0}

-- Bytes are the text of at most one certificate, or have at most one first fault, and not both.
pub record HasOneAnswer (bytes : List ℕ) : Type 0 where
  pub certificate : (C E : Certificate) → IsTextOf bytes C → IsTextOf bytes E → C ≡ E
  pub either : (C : Certificate) (f : DocFault) → IsTextOf bytes C → IsCertificateFault bytes f → ⊥
  pub fault : (f g : DocFault) → IsCertificateFault bytes f → IsCertificateFault bytes g → f ≡ g
