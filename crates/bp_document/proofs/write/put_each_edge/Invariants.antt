use Rattle.std.proofs.Common.{◌-◌, ◌≤◌}
use Rattle.std.specs.List.{flat_map, range_with_len}
use Rattle.bp_base.specs.Causes.{Appends}
use Rattle.bp_document.specs.Lines.{edge_line}
use Rattle.bp_document.proofs.write.put_each_edge.Given as goal

abbrev pub invariant-loop-edge : goal.invariant-loop-edge
invariant-loop-edge g l =
    Appends (g.K.Sink.held l.fn.sink) (g.K.Sink.held l.sink) (flat_map (edge_line l.tree) (range_with_len 1 (l.edge - 1)))
    × (g.K.Sink.faults l.fn.sink ≤ g.K.Sink.faults l.sink)
