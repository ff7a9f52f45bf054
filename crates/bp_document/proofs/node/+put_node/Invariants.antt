use Rattle.std.proofs.Common.{◌+◌, ◌≤◌, take}
use Rattle.std.specs.List.{flat_map}
use Rattle.bp_base.specs.Causes.{Appends}
use Rattle.bp_metric.specs.Nodes.{node_count_of}
use Rattle.bp_document.proofs.Nodes.{lines_at}
use Rattle.bp_document.proofs.node.+put_node.Given as goal

abbrev pub decreases-put_node : goal.decreases-put_node
decreases-put_node g l = node_count_of l.node.now

-- the lines of the children so far
abbrev pub invariant-loop-child : goal.invariant-loop-child
invariant-loop-child g l =
    Appends (g.K.Sink.held l.initial.sink) (g.K.Sink.held l.sink) (flat_map (lines_at (l.depth + 1)) (take l.child-index l.child-items))
    × (g.K.Sink.faults l.initial.sink ≤ g.K.Sink.faults l.sink)
