use Rattle.bp_document.proofs.StartSteps.{no_sheet, sheet_read}
use Rattle.bp_document.proofs.start_step.feed_sheet.Goals as goal

pub returns-in-None-clause-stage : goal.returns-in-None-clause-stage
returns-in-None-clause-stage c = no_sheet c.args.bytes.now c.args.memory c.in-None.ensures

pub returns-in-Some-clause-stage : goal.returns-in-Some-clause-stage
returns-in-Some-clause-stage c = sheet_read c.args.bytes.now c.args.memory c.in-Some.sheet c.in-Some.ensures
