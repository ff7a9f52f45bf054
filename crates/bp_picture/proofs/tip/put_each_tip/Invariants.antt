use Rattle.std.proofs.Common.{◌-◌, ◌≤◌}
use Rattle.std.specs.List.{flat_map, range_with_len}
use Rattle.bp_base.specs.Causes.{Appends}
use Rattle.bp_picture.specs.PictureText.{tip_text}
use Rattle.bp_picture.proofs.tip.put_each_tip.Given as goal

abbrev pub invariant-loop-leaf : goal.invariant-loop-leaf
invariant-loop-leaf g l =
    Appends (g.K.Sink.held l.fn.sink) (g.K.Sink.held l.sink) (flat_map (tip_text l.metric.tree l.side l.points) (range_with_len 1 (l.leaf - 1)))
    × (g.K.Sink.faults l.fn.sink ≤ g.K.Sink.faults l.sink)
