use Rattle.std.proofs.Common.{sym, subst}
use Rattle.bp_certificate.specs.declared.stage.Stage.{Stage}
use Rattle.bp_certificate.specs.Stages.{Steps}
use Rattle.bp_certificate.proofs.OpeningSteps.{version_fed, version_refused}
use Rattle.bp_certificate.proofs.opening_step.feed_version.Goals as goal

pub returns-in-None : goal.returns-in-None
returns-in-None c = version_refused c.args.bytes.now c.args.memory c.in-None.ensures

pub returns-in-Some : goal.returns-in-Some
returns-in-Some c = subst (Steps (Stage.Version c.args.memory) c.args.bytes.now) (sym c.on.ensures) (version_fed c.args.bytes.now c.args.memory c.in-Some.field-0 c.in-Some.ensures)
