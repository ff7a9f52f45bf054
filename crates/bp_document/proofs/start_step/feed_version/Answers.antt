use Rattle.bp_document.proofs.StartSteps.{no_version, first_version, second_version}
use Rattle.bp_document.proofs.start_step.feed_version.Goals as goal

pub returns-in-None-clause-stage : goal.returns-in-None-clause-stage
returns-in-None-clause-stage c = no_version c.args.bytes.now c.args.memory c.in-None.ensures

pub returns-then-version-eq1-clause-stage : goal.returns-then-version-eq1-clause-stage
returns-then-version-eq1-clause-stage c = first_version c.args.bytes.now c.args.memory c.in-Some.version c.if-version-eq1.true c.in-Some.ensures

pub returns-else-version-eq1-clause-stage : goal.returns-else-version-eq1-clause-stage
returns-else-version-eq1-clause-stage c = second_version c.args.bytes.now c.args.memory c.in-Some.version c.if-version-eq1.false c.in-Some.ensures
