-- What is answered to a certificate's text that is judged against its own tree.
use Rattle.std.specs.Prelude.{List, ℕ, Result, Ok, Err}
use Rattle.bp_document.specs.declared.fault.ReadDoc.{ReadDoc}
use Rattle.bp_document.specs.declared.fault.ReadDoc.TheVariants as read
use Rattle.bp_certificate.specs.declared.certificate.CertificateHead.{CertificateHead}
use Rattle.bp_certificate.specs.declared.certificate.Lemma.{Lemma}
use Rattle.bp_certificate.specs.Faults.{IsCertificateFault, IsTextOf}
use Rattle.bp_certificate.specs.Places.{certificate_of}
use Rattle.bp_certificate.specs.Scanning.{IsCertificateFed, Progress}
use Rattle.bp_certificate.specs.Stages.{told_head}
use Rattle.bp_verify.specs.declared.fault.VerifyFault.{VerifyFault}
use Rattle.bp_verify.specs.declared.fault.VerifyFault.TheVariants.{Doc, Read, NoMemory}
use Rattle.bp_verify.specs.declared.own.Own.{Own}
use Rattle.bp_verify.specs.Streams.{IsRefused}
use Rattle.bp_verify.specs.Verdicts.{IsVerdictOf}

-- The bytes are the text of a certificate with this head, and the verdict on it against its own tree is this.
pub record IsOwn (bytes : List ℕ) (o : Own) : Type 0 where
  pub lemmas : List Lemma
  pub text : IsTextOf bytes (certificate_of o.head lemmas)
  pub verdict : IsVerdictOf o.head.tree (certificate_of o.head lemmas) o.verdict

-- The same, or the bytes are no certificate's text. Memory may lack.
abbrev pub VerifiesOwn : List ℕ → Result Own VerifyFault → Type 0
VerifiesOwn bytes (Ok o) = IsOwn bytes o
VerifiesOwn bytes (Err (Doc f)) = IsRefused bytes f
VerifiesOwn bytes (Err Read) = ⊥
VerifiesOwn bytes (Err NoMemory) = Unit {0}

-- The bytes are the text of a certificate with this head, or of none.
abbrev pub ReadsHead : List ℕ → Result CertificateHead VerifyFault → Type 0
ReadsHead bytes (Ok H) = (ls : List Lemma) × IsTextOf bytes (certificate_of H ls)
ReadsHead bytes (Err (Doc f)) = IsRefused bytes f
ReadsHead bytes (Err Read) = ⊥
ReadsHead bytes (Err NoMemory) = Unit {0}

-- All bytes were fed to a scanner, and are a certificate's text, or they have this first fault.
abbrev pub ScansAll : List ℕ → Progress → Result Unit ReadDoc → Type 0
ScansAll bytes P (Ok done) = (ls : List Lemma) × IsCertificateFed bytes ls (told_head P.stage)
ScansAll bytes P (Err (read.Fault f)) = IsCertificateFault bytes f
ScansAll bytes P (Err read.NoMemory) = Unit {0}
