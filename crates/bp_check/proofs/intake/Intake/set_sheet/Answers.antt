use Rattle.bp_check.proofs.Intakes.{told_sheet, set_some}
use Rattle.bp_check.proofs.intake.Intake.set_sheet.Goals as goal

pub set_sheet-requires : goal.set_sheet-requires
set_sheet-requires c = told_sheet c.args.self.now c.in-Some.head.now c.in-Some.ensures.head c.in-Some.ensures.told c.requires.scanned

pub returns-in-Some-clause-set : goal.returns-in-Some-clause-set
returns-in-Some-clause-set c = λ T text all ns. set_some T c.args.self.now c.set_sheet.new.self text all ns c.in-Some.head.now c.in-Some.ensures.head c.in-Some.ensures.told c.set_sheet.ensures
