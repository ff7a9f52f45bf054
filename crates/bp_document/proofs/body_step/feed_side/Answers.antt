use Rattle.bp_document.proofs.BodySteps.{no_side, side_read}
use Rattle.bp_document.proofs.body_step.feed_side.Goals as goal

pub returns-in-None-clause-stage : goal.returns-in-None-clause-stage
returns-in-None-clause-stage c = no_side c.args.bytes.now c.args.parts c.in-None.ensures

pub returns-in-Some-clause-stage : goal.returns-in-Some-clause-stage
returns-in-Some-clause-stage c = side_read c.args.bytes.now c.args.parts c.in-Some.side c.in-Some.ensures
