use Rattle.bp_document.proofs.StartSteps.{no_count, count_read}
use Rattle.bp_document.proofs.start_step.feed_edge_count.Goals as goal

pub returns-in-None-clause-stage : goal.returns-in-None-clause-stage
returns-in-None-clause-stage c = no_count c.args.bytes.now c.args.memory c.args.sheet c.in-None.ensures

pub returns-in-Some-clause-stage : goal.returns-in-Some-clause-stage
returns-in-Some-clause-stage c = count_read c.args.bytes.now c.args.memory c.args.sheet c.in-Some.count c.in-Some.ensures
