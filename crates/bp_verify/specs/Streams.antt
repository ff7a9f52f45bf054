-- What verifying in one pass answers for a source.
use Rattle.std.specs.Prelude.{◌≡◌, ◌↔◌, List, ℕ, [], take, drop, Result, Ok, Err}
use Rattle.std.specs.declared.option.Option.{Option}
use Rattle.std.specs.declared.option.Option.TheVariants.{Some}
use Rattle.bp_base.specs.Tree.{TreeValue}
use Rattle.bp_document.specs.declared.fault.DocFault.{DocFault}
use Rattle.bp_base.specs.Reading.{Told}
use Rattle.bp_check.specs.Streams.{most_read}
use Rattle.bp_certificate.specs.declared.certificate.Certificate.{Certificate}
use Rattle.bp_certificate.specs.Faults.{IsCertificateFault, IsTextOf}
use Rattle.bp_verify.specs.declared.fault.Verified.{Verified}
use Rattle.bp_verify.specs.declared.fault.VerifyFault.{VerifyFault}
use Rattle.bp_verify.specs.declared.fault.VerifyFault.TheVariants.{Doc, Read, NoMemory}
use Rattle.bp_verify.specs.declared.verdict.Reason.{Reason}
use Rattle.bp_verify.specs.declared.verdict.Verdict.TheVariants.{Yes, No}
use Rattle.bp_verify.specs.Certifies.{Certifies}
use Rattle.bp_verify.specs.Reasons.{IsFirstReason}

-- The bytes are a certificate's text. Side and bound are the certificate's, and the verdict is yes exactly where it is right, and else its first reason.
pub record VerifiesText (T : TreeValue) (bytes : List ℕ) (v : Verified) : Type 0 where
  pub certificate : Certificate
  pub text : IsTextOf bytes certificate
  pub side : v.side ≡ certificate.side
  pub bound : v.bound ≡ certificate.bound
  pub yes : (v.verdict ≡ Yes) ↔ Certifies T certificate
  pub no : (reason : Reason) → ((v.verdict ≡ No reason) ↔ IsFirstReason T certificate reason)

-- the bytes are no certificate's text, and this is their first fault
pub record IsRefused (bytes : List ℕ) (f : DocFault) : Type 0 where
  pub fault : IsCertificateFault bytes f
  pub none : (C : Certificate) → IsTextOf bytes C → ⊥

-- What is answered to a source, by what was left of it and what is: it is read to its end, or to one byte past the limit. Some bytes were
-- verified, and where the source tells its bytes they are these; or these are refused.
abbrev pub Verifies : TreeValue → Option (List ℕ) → Option (List ℕ) → Result Verified VerifyFault → Type 0
Verifies T left after (Ok v) = (bytes : List ℕ) × VerifiesText T bytes v × Told left (λ b. (b ≡ bytes) × (after ≡ Some []))
Verifies T left after (Err (Doc f)) = Told left (λ b. IsRefused (take most_read b) f × (after ≡ Some (drop most_read b)))
Verifies T left after (Err Read) = Unit {0}
Verifies T left after (Err NoMemory) = Unit {0}
