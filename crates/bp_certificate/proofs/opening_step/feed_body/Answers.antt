use Rattle.std.proofs.Common.{sym, subst}
use Rattle.bp_certificate.specs.declared.stage.Stage.{Stage}
use Rattle.bp_certificate.specs.Stages.{Steps}
use Rattle.bp_certificate.proofs.OpeningSteps.{body_fed, body_refused}
use Rattle.bp_certificate.proofs.opening_step.feed_body.Goals as goal

pub returns-in-Err : goal.returns-in-Err
returns-in-Err c = body_refused c.args.bytes.now c.args.stage c.in-Err.fall c.in-Err.ensures

pub returns-in-Ok : goal.returns-in-Ok
returns-in-Ok c =
    subst (Steps (Stage.Body c.args.stage) c.args.bytes.now) (sym c.on.ensures)
    (body_fed c.args.bytes.now c.args.stage c.in-Ok.step c.behind_body.result c.in-Ok.ensures c.behind_body.ensures)
