use Rattle.std.proofs.Common.{◌-◌, ◌≤◌}
use Rattle.std.specs.List.{flat_map, range_with_len}
use Rattle.bp_base.specs.Causes.{Appends}
use Rattle.bp_tree.specs.Text.{tree_line}
use Rattle.bp_tree.proofs.writing.write_tree.Given as goal

abbrev pub invariant-loop-edge : goal.invariant-loop-edge
invariant-loop-edge g l =
    Appends (g.K.Sink.held l.fn.sink) (g.K.Sink.held l.sink) (flat_map (tree_line l.tree) (range_with_len 1 (l.edge - 1)))
    × (g.K.Sink.faults l.fn.sink ≤ g.K.Sink.faults l.sink)
