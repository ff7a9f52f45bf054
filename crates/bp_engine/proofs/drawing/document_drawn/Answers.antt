use Rattle.bp_document.specs.declared.document.Document.{Document}
use Rattle.bp_document.specs.Faults.{IsDocFault, IsTextOf}
use Rattle.bp_engine.proofs.Drawings.{document_status}
use Rattle.bp_engine.proofs.drawing.document_drawn.Goals as goal

pub returns-in-Ok-drawn-clause-answers : goal.returns-in-Ok-drawn-clause-answers
returns-in-Ok-drawn-clause-answers c = (c.in-Ok.document, c.in-Ok.ensures.reads, c.in-Ok-drawn.ensures.answer)

pub returns-in-Err-Fault-clause-none : goal.returns-in-Err-Fault-clause-none
returns-in-Err-Fault-clause-none c =
    let refused : IsDocFault c.args.bytes.now c.in-Err-Fault.fault × ((D : Document) → IsTextOf c.args.bytes.now D → ⊥) = rw c.in-Err-Fault.field-0-is at c.in-Err-Fault.ensures.reads in
    rw c.in-Err-Fault.field-0-is (document_status c.args.bytes.now c.in-Err-Fault.fault refused.0 refused.1)
