use Rattle.std.proofs.Common.{map}
use Rattle.bp_join.specs.Entries.{opened_node}
use Rattle.bp_join.specs.Joined.{AreOpenNodes}
use Rattle.bp_join.proofs.joining.opened_of.Given as goal

abbrev pub invariant-loop-task : goal.invariant-loop-task
invariant-loop-task l = AreOpenNodes l.metric.tree l.metric.sheet l.yielded (map opened_node l.opened.items)
