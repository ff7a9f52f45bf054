use Rattle.std.proofs.Common.{refl}
use Rattle.std.proofs.lemmas.Bool.{false≢true}
use Rattle.bp_engine.proofs.Drawings.{certificate_answered, certificate_none, document_answered, document_none}
use Rattle.bp_engine.proofs.drawing.bytes_drawn.Goals as goal

pub returns-then-opens_certificate-clause-answers : goal.returns-then-opens_certificate-clause-answers
returns-then-opens_certificate-clause-answers c =
    certificate_answered (λ v. v.status) (λ v. v.text.items) c.args.drawing c.args.bytes.now c.certificate_drawn.result c.certificate_drawn.ensures.answers

pub returns-then-opens_certificate-clause-none : goal.returns-then-opens_certificate-clause-none
returns-then-opens_certificate-clause-none c =
    certificate_none c.args.bytes.now c.certificate_drawn.result (c.if-opens_certificate.ensures.0 refl) c.certificate_drawn.ensures.none

pub returns-else-opens_certificate-clause-answers : goal.returns-else-opens_certificate-clause-answers
returns-else-opens_certificate-clause-answers c =
    document_answered (λ v. v.status) (λ v. v.text.items) c.args.drawing c.args.bytes.now c.document_drawn.result c.document_drawn.ensures.answers

pub returns-else-opens_certificate-clause-none : goal.returns-else-opens_certificate-clause-none
returns-else-opens_certificate-clause-none c =
    document_none c.args.bytes.now c.document_drawn.result (λ opens. false≢true (c.if-opens_certificate.ensures.1 opens)) c.document_drawn.ensures.none
