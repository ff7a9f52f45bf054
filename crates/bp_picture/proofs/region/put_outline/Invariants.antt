use Rattle.std.proofs.Common.{◌≤◌, take}
use Rattle.bp_base.specs.Causes.{Appends}
use Rattle.bp_picture.specs.PictureText.{outline_text}
use Rattle.bp_picture.proofs.region.put_outline.Given as goal

abbrev pub invariant-loop-around : goal.invariant-loop-around
invariant-loop-around g l =
    Appends (g.K.Sink.held l.fn.sink) (g.K.Sink.held l.sink) (outline_text l.side (take l.around-index l.loops))
    × (g.K.Sink.faults l.fn.sink ≤ g.K.Sink.faults l.sink)
