-- What a check in one pass answers for a source.
use Rattle.std.specs.Prelude.{◌≡◌, ◌↔◌, ℕ, ◌+◌, List, [], take, drop, Result, Ok, Err}
use Rattle.std.specs.declared.option.Option.{Option}
use Rattle.std.specs.declared.option.Option.TheVariants.{Some}
use Rattle.bp_base.specs.Limits.{most_document_bytes}
use Rattle.bp_base.specs.Reading.{Told}
use Rattle.bp_base.specs.Tree.{TreeValue}
use Rattle.bp_document.specs.declared.document.Document.{Document}
use Rattle.bp_document.specs.declared.fault.DocFault.{DocFault}
use Rattle.bp_document.specs.Faults.{IsDocFault, IsTextOf}
use Rattle.bp_check.specs.declared.fault.CheckFault.{CheckFault}
use Rattle.bp_check.specs.declared.fault.CheckFault.TheVariants.{Doc, Read, NoMemory}
use Rattle.bp_check.specs.declared.fault.Streamed.{Streamed}
use Rattle.bp_check.specs.declared.verdict.Reason.{Reason}
use Rattle.bp_check.specs.declared.verdict.Verdict.TheVariants.{Yes, No}
use Rattle.bp_check.specs.Checks.{Checks}
use Rattle.bp_check.specs.Reasons.{IsFirstReason}

-- one byte more than a document has at most, by which a longer input is known
abbrev pub most_read : ℕ
most_read = most_document_bytes + 1

-- The bytes are a document's text. Side and bound are the document's, and the verdict is yes exactly where it checks, and else its first reason.
pub record ChecksText (T : TreeValue) (bytes : List ℕ) (s : Streamed) : Type 0 where
  pub document : Document
  pub text : IsTextOf bytes document
  pub side : s.side ≡ document.side
  pub bound : s.bound ≡ document.bound
  pub yes : (s.verdict ≡ Yes) ↔ Checks T document
  pub no : (reason : Reason) → ((s.verdict ≡ No reason) ↔ IsFirstReason T document reason)

-- the bytes are no document's text, and this is their first fault
pub record IsRefused (bytes : List ℕ) (f : DocFault) : Type 0 where
  pub fault : IsDocFault bytes f
  pub none : (D : Document) → IsTextOf bytes D → ⊥

-- What is answered to a source, by what was left of it and what is: it is read to its end, or to one byte past the limit. Some bytes were checked,
-- and where the source tells its bytes they are these.
abbrev pub Streams : TreeValue → Option (List ℕ) → Option (List ℕ) → Result Streamed CheckFault → Type 0
Streams T left after (Ok s) = (bytes : List ℕ) × ChecksText T bytes s × Told left (λ b. (b ≡ bytes) × (after ≡ Some []))
Streams T left after (Err (Doc f)) = Told left (λ b. IsRefused (take most_read b) f × (after ≡ Some (drop most_read b)))
Streams T left after (Err Read) = Unit {0}
Streams T left after (Err NoMemory) = Unit {0}
