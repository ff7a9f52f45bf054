use Rattle.std.proofs.Common.{sym, subst}
use Rattle.bp_certificate.specs.declared.stage.Stage.{Stage}
use Rattle.bp_certificate.specs.Stages.{Steps}
use Rattle.bp_certificate.proofs.OpeningSteps.{sheet_fed, sheet_refused}
use Rattle.bp_certificate.proofs.opening_step.feed_sheet.Goals as goal

pub returns-in-None : goal.returns-in-None
returns-in-None c = sheet_refused c.args.bytes.now c.args.memory c.in-None.ensures

pub returns-in-Some : goal.returns-in-Some
returns-in-Some c = subst (Steps (Stage.Sheet c.args.memory) c.args.bytes.now) (sym c.on.ensures) (sheet_fed c.args.bytes.now c.args.memory c.in-Some.sheet c.in-Some.ensures)
