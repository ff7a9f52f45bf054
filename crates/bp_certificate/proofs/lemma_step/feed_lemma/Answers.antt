use Rattle.std.proofs.Common.{Ok, Option, subst}
use Rattle.bp_certificate.specs.declared.certificate.Lemma.{Lemma}
use Rattle.bp_certificate.specs.Words.{ReadsLemma}
use Rattle.bp_certificate.proofs.LemmaSteps.{lemma_fed}
use Rattle.bp_certificate.proofs.lemma_step.feed_lemma.Goals as goal

pub returns-in-Ok-Some : goal.returns-in-Ok-Some
returns-in-Ok-Some c =
    lemma_fed c.args.bytes.now c.args.head c.args.left c.at_lemmas-stage.result c.at_lemmas-stage.ensures c.in-Ok-Some.lemma
    (subst (λ (o : Option Lemma). ReadsLemma c.args.bytes.now (Ok o)) c.in-Ok-Some.field-0-is c.in-Ok-Some.ensures)
