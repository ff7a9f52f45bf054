use Rattle.std.proofs.Common.{Err, subst}
use Rattle.bp_document.specs.declared.fault.ReadDoc.{ReadDoc}
use Rattle.bp_verify.specs.Own.{ScansAll}
use Rattle.bp_verify.proofs.Ending.{refuse}
use Rattle.bp_verify.proofs.own.refused.Goals as goal

pub returns-in-Fault : goal.returns-in-Fault
returns-in-Fault c =
    let bytes = c.args._bytes.now in
    refuse bytes c.in-Fault.fault (c.law_of_one_certificate.ensures bytes)
    (subst (λ (e : ReadDoc). ScansAll bytes c.requires.0 (Err e)) c.in-Fault.is c.requires.1)
