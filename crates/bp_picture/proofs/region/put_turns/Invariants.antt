use Rattle.std.proofs.Common.{◌≤◌, take}
use Rattle.std.specs.List.{flat_map}
use Rattle.bp_base.specs.Causes.{Appends}
use Rattle.bp_picture.specs.PictureText.{turn_text}
use Rattle.bp_picture.proofs.region.put_turns.Given as goal

abbrev pub invariant-loop-point : goal.invariant-loop-point
invariant-loop-point g l =
    Appends (g.K.Sink.held l.fn.sink) (g.K.Sink.held l.sink) (flat_map (turn_text l.side) (take l.point-index l.points))
    × (g.K.Sink.faults l.fn.sink ≤ g.K.Sink.faults l.sink)
