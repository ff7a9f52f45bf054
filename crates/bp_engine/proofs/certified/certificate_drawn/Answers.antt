use Rattle.bp_certificate.specs.Places.{certificate_of}
use Rattle.bp_engine.proofs.Drawings.{certificate_status}
use Rattle.bp_engine.proofs.certified.certificate_drawn.Goals as goal

pub own_drawn-requires : goal.own_drawn-requires
own_drawn-requires c = (c.args.bytes.now, c.in-Ok.ensures)

pub returns-in-Ok-own_drawn-clause-answers : goal.returns-in-Ok-own_drawn-clause-answers
returns-in-Ok-own_drawn-clause-answers c =
    let is = c.in-Ok.ensures in
    (certificate_of c.in-Ok.own.head is.lemmas, is.text, c.in-Ok-own_drawn.ensures.answer c.args.bytes.now is)

pub returns-in-Err-clause-none : goal.returns-in-Err-clause-none
returns-in-Err-clause-none c = certificate_status c.args.bytes.now c.in-Err.fault c.status_of.result c.status_of.ensures c.in-Err.ensures
