use Rattle.std.proofs.Common.{List, ℕ, subst}
use Rattle.bp_document.specs.declared.document.Document.{Document}
use Rattle.bp_document.specs.Faults.{IsDocFault, IsTextOf}
use Rattle.bp_engine.proofs.BytesRead.{reads_doc, refuses_doc}
use Rattle.bp_engine.proofs.given.given_document.Goals as goal

pub returns-in-Ok-read_document-clause-reads : goal.returns-in-Ok-read_document-clause-reads
returns-in-Ok-read_document-clause-reads g c =
    reads_doc _ _ c.in-Ok.bytes.items c.in-Ok-read_document.document c.in-Ok.ensures.bytes
    (subst (λ (b : List ℕ). IsTextOf b c.in-Ok-read_document.document) c.deref.ensures.value c.in-Ok-read_document.ensures.reads)

pub returns-in-Err-Fault-clause-none : goal.returns-in-Err-Fault-clause-none
returns-in-Err-Fault-clause-none g c =
    let h : IsDocFault c.deref.result.now c.in-Err-Fault.fault × ((D : Document) → IsTextOf c.deref.result.now D → ⊥) = rw c.in-Err-Fault.field-0-is at c.in-Err-Fault.ensures.reads in
    let k : IsDocFault c.in-Ok.bytes.items c.in-Err-Fault.fault × ((D : Document) → IsTextOf c.in-Ok.bytes.items D → ⊥) = rw c.deref.ensures.value at h in
    refuses_doc _ _ c.in-Ok.bytes.items c.in-Err-Fault.fault c.in-Ok.ensures.bytes (record { fault = k.0; none = k.1 })
