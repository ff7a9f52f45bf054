use Rattle.bp_join.proofs.Takings.{opens_more}
use Rattle.bp_join.proofs.joining.opened_of.Goals as goal

pub loop-task-preserved : goal.loop-task-preserved
loop-task-preserved c = opens_more c.args.metric.now.tree c.args.metric.now.sheet c.loop-task.yielded c.in-Some.task c.loop-task.opened.items c.in_ok-opened_at.field-0 c.push.new.self.items c.loop-task.invariant c.in_ok-opened_at.ensures c.in_ok-push.ensures.items
