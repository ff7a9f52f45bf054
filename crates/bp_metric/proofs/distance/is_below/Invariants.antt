use Rattle.std.proofs.Common.{◌≡◌, ◌<◌}
use Rattle.bp_base.specs.Tree.{node_count}
use Rattle.bp_metric.specs.Distance.{is_below}
use Rattle.bp_metric.proofs.distance.is_below.Given as goal

abbrev pub invariant-loop-node : goal.invariant-loop-node
invariant-loop-node l = (l.node < node_count l.tree) × (is_below l.tree l.node l.edge ≡ is_below l.tree l.fn.node l.edge)

abbrev pub decreases-loop-node : goal.decreases-loop-node
decreases-loop-node l = l.node
