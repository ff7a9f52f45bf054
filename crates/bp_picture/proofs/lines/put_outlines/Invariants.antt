use Rattle.std.proofs.Common.{◌≤◌, take}
use Rattle.std.specs.List.{flat_map}
use Rattle.bp_base.specs.Causes.{Appends}
use Rattle.bp_picture.specs.declared.outline.Outline.{Outline}
use Rattle.bp_picture.specs.PictureText.{outline_text}
use Rattle.bp_picture.proofs.lines.put_outlines.Given as goal

abbrev pub invariant-loop-outline : goal.invariant-loop-outline
invariant-loop-outline g l =
    Appends (g.K.Sink.held l.fn.sink) (g.K.Sink.held l.sink) (flat_map (λ (o : Outline). outline_text l.side o.loops) (take l.outline-index l.outlines))
    × (g.K.Sink.faults l.fn.sink ≤ g.K.Sink.faults l.sink)
