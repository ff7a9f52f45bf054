use Rattle.std.proofs.Common.{◌≡◌, ◌≤◌, length}
use Rattle.bp_base.specs.Causes.{Appends}
use Rattle.bp_document.proofs.Leaves.{leaves_before, lines_before}
use Rattle.bp_document.proofs.points.put_points.Given as goal

abbrev pub invariant-loop-node : goal.invariant-loop-node
invariant-loop-node g l =
    Appends (g.K.Sink.held l.fn.sink) (g.K.Sink.held l.sink) (lines_before l.tree l.points l.node)
    × (l.leaves ≡ length (leaves_before l.tree l.node))
    × (g.K.Sink.faults l.fn.sink ≤ g.K.Sink.faults l.sink)
