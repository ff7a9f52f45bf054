use Rattle.std.proofs.Common.{sym, subst}
use Rattle.bp_certificate.specs.declared.stage.Stage.{Stage}
use Rattle.bp_certificate.specs.Stages.{Steps}
use Rattle.bp_certificate.proofs.PlanSteps.{corner_fed, corner_refused}
use Rattle.bp_certificate.proofs.plan_step.feed_corner.Goals as goal

pub returns-in-None : goal.returns-in-None
returns-in-None c = corner_refused c.args.bytes.now c.args.design c.args.count c.in-None.ensures

pub returns-in-Some : goal.returns-in-Some
returns-in-Some c =
    subst (Steps (Stage.Corner c.args.design c.args.count) c.args.bytes.now) (sym c.on.ensures)
    (corner_fed c.args.bytes.now c.args.design c.args.count c.in-Some.corner c.in-Some.ensures)
