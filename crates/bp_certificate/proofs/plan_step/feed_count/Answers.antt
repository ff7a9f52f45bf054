use Rattle.std.proofs.Common.{ℕ, None, Some, Ok, Option, sym, subst}
use Rattle.bp_document.specs.Words.{words}
use Rattle.bp_certificate.specs.declared.certificate.CertificateHead.{CertificateHead}
use Rattle.bp_certificate.specs.declared.stage.Stage.{Stage}
use Rattle.bp_certificate.specs.Words.{ReadsCount}
use Rattle.bp_certificate.specs.Stages.{Steps}
use Rattle.bp_certificate.proofs.OpeningSteps.{on}
use Rattle.bp_certificate.proofs.PlanSteps.{count_refused, no_lemmas, some_lemmas}
use Rattle.bp_certificate.proofs.plan_step.feed_count.Goals as goal

pub returns-in-None : goal.returns-in-None
returns-in-None c = count_refused c.args.bytes.now c.args.design c.in-None.ensures

pub returns-in-Some-None : goal.returns-in-Some-None
returns-in-Some-None c =
    let reads : ReadsCount (words c.args.bytes.now) (Some None) = subst (λ (o : Option ℕ). ReadsCount (words c.args.bytes.now) (Some o)) c.in-Some-None.field-0-is c.in-Some-None.ensures in
    subst (Steps (Stage.Count c.args.design) c.args.bytes.now) (sym c.on.ensures)
    (subst (λ (H : CertificateHead). Steps (Stage.Count c.args.design) c.args.bytes.now (Ok (on (Stage.End H)))) (sym c.head_of.ensures) (no_lemmas c.args.bytes.now c.args.design reads))

pub returns-in-Some-Some : goal.returns-in-Some-Some
returns-in-Some-Some c =
    let reads : ReadsCount (words c.args.bytes.now) (Some (Some c.in-Some-Some.count)) = subst (λ (o : Option ℕ). ReadsCount (words c.args.bytes.now) (Some o)) c.in-Some-Some.field-0-is c.in-Some-Some.ensures in
    subst (Steps (Stage.Count c.args.design) c.args.bytes.now) (sym c.on-in-Some-Some.ensures) (some_lemmas c.args.bytes.now c.args.design c.in-Some-Some.count reads)
