use Rattle.std.proofs.Common.{◌≡◌, map, take}
use Rattle.bp_metric.specs.Nodes.{least_of, node_count_of, weighs}
use Rattle.bp_written.proofs.weighing.+weighed.Given as goal

abbrev pub decreases-weighed : goal.decreases-weighed
decreases-weighed l = node_count_of l.refutation.now

abbrev pub invariant-loop-child : goal.invariant-loop-child
invariant-loop-child l = l.least ≡ least_of (map (weighs l.metric.tree l.metric.sheet) (take l.child-index l.child-items))
