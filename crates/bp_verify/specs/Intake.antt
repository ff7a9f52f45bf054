-- What verifying in one pass has taken of a certificate.
use Rattle.std.specs.Prelude.{◌≡◌, ◌≢◌, ℕ, ◌≤◌, List, [], ◌∷◌, ◌++◌, length, take, All, Bool, true, false, Option, None, Some, Result, Ok, Err}
use Rattle.bp_base.specs.Limits.{most_document_bytes}
use Rattle.bp_base.specs.Tree.{TreeValue}
use Rattle.bp_document.specs.declared.fault.DocFault.{DocFault}
use Rattle.bp_document.specs.declared.fault.ReadDoc.{ReadDoc}
use Rattle.bp_document.specs.declared.fault.ReadDoc.TheVariants as read
use Rattle.bp_document.specs.Faults.{HasLine}
use Rattle.bp_certificate.specs.declared.certificate.CertificateHead.{CertificateHead}
use Rattle.bp_certificate.specs.declared.certificate.Lemma.{Lemma}
use Rattle.bp_certificate.specs.Faults.{IsCertificateFault}
use Rattle.bp_certificate.specs.Scanning.{HasFed, IsCertificateFed, IsFaultBehind, IsUnbroken, Progress}
use Rattle.bp_certificate.specs.Stages.{told_head}
use Rattle.bp_verify.specs.declared.fault.Verified.{Verified}
use Rattle.bp_verify.specs.declared.fault.VerifyFault.{VerifyFault}
use Rattle.bp_verify.specs.declared.fault.VerifyFault.TheVariants.{Doc, Read, NoMemory}
use Rattle.bp_verify.specs.declared.intake.Intake.{Intake}
use Rattle.bp_verify.specs.declared.judge.Judge.{Judge}
use Rattle.bp_verify.specs.Held.{most_held}
use Rattle.bp_verify.specs.Judged.{HasJudged}
use Rattle.bp_verify.specs.Streams.{IsRefused, VerifiesText}

-- These lemmas were judged, of the certificate whose head is told.
abbrev pub AreJudged : TreeValue → Progress → Option Judge → List Lemma → Type 0
AreJudged T P None judged = judged ≡ []
AreJudged T P (Some j) judged = (H : CertificateHead) × (told_head P.stage ≡ Some H) × HasJudged T H judged j

-- The scanner was fed this text of all these lemmas, and some of them are judged.
pub record IsScanned (T : TreeValue) (p : Intake) (text : List ℕ) (all done : List Lemma) : Type 0 where
  pub unbroken : IsUnbroken p.scanner
  pub fed : HasFed p.scanner text all
  pub tree : p.metric.tree ≡ T
  pub judged : AreJudged T p.scanner p.judge done

-- the head is told
pub record HasTold (p : Intake) : Type 0 where
  pub on : TreeValue
  pub text : List ℕ
  pub all : List Lemma
  pub done : List Lemma
  pub scanned : IsScanned on p text all done
  pub head : CertificateHead
  pub told : told_head p.scanner.stage ≡ Some head

-- the last lemma is still to be judged
abbrev pub IsAhead : Intake → Lemma → Type 0
IsAhead p lemma = (T : TreeValue) × (text : List ℕ) × (ls : List Lemma) × IsScanned T p text (ls ++ lemma ∷ []) ls

-- A line of the bytes has this fault, whatever follows.
pub record HasLineFault (bytes : List ℕ) (f : DocFault) : Type 0 where
  pub text : List ℕ
  pub line : List ℕ
  pub stands : HasLine bytes text line true
  pub free : All (λ b. b ≢ 10) line
  pub fault : IsFaultBehind text line true f

-- The bytes are whole lines without a fault, and then the line that is held, or one of them has a fault.
abbrev pub TakenInTo : TreeValue → Intake → List ℕ → Option DocFault → Type 0
TakenInTo T p bytes None =
    (text : List ℕ) × (line : List ℕ) × (ls : List Lemma) × (bytes ≡ text ++ line) × (p.held ≡ take most_held line) × All (λ b. b ≢ 10) line × IsScanned T p text ls ls
TakenInTo T p bytes (Some f) = HasLineFault bytes f

-- these bytes were taken in
abbrev pub HasTakenIn : TreeValue → Intake → List ℕ → Type 0
HasTakenIn T p bytes = TakenInTo T p bytes p.fault

abbrev pub IsUnderway : Intake → Type 0
IsUnderway p = (T : TreeValue) × (bytes : List ℕ) × HasTakenIn T p bytes

-- the LF of a line, where it is there
abbrev pub end_of : Bool → List ℕ
end_of true = 10 ∷ []
end_of false = []

-- one that has taken bytes has taken these too
abbrev pub Takes : Intake → Intake → List ℕ → Type 0
Takes p q bytes = (T : TreeValue) (before : List ℕ) → HasTakenIn T p before → HasTakenIn T q (before ++ bytes)

-- The bytes are a certificate's text, with this head and these lemmas, all of them judged.
pub record IsWhole (T : TreeValue) (p : Intake) (bytes : List ℕ) : Type 0 where
  pub lemmas : List Lemma
  pub scanned : IsScanned T p bytes lemmas lemmas
  pub certificate : IsCertificateFed bytes lemmas (told_head p.scanner.stage)

-- What the end of input does: all was a certificate, or the first fault is one of the line that has no LF, or of the end. Memory may lack.
abbrev pub EndsIntake : Intake → Intake → Result Unit ReadDoc → Type 0
EndsIntake p q (Ok done) = (T : TreeValue) (bytes : List ℕ) → HasTakenIn T p bytes → IsWhole T q bytes
EndsIntake p q (Err (read.Fault f)) = (T : TreeValue) (bytes : List ℕ) → HasTakenIn T p bytes → length bytes ≤ most_document_bytes → IsCertificateFault bytes f
EndsIntake p q (Err read.NoMemory) = Unit {0}

-- What is answered to these bytes, where they are all that there is.
abbrev pub AnswersText : TreeValue → List ℕ → Result Verified VerifyFault → Type 0
AnswersText T bytes (Ok v) = VerifiesText T bytes v
AnswersText T bytes (Err (Doc f)) = IsRefused bytes f
AnswersText T bytes (Err Read) = ⊥
AnswersText T bytes (Err NoMemory) = Unit {0}
