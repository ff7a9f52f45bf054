use Rattle.std.proofs.Common.{◌≤◌, map, take}
use Rattle.bp_base.specs.Causes.{Appends}
use Rattle.bp_fold.specs.FoldText.{commas, point_text}
use Rattle.bp_fold.proofs.writing.put_points.Given as goal

abbrev pub invariant-loop-k : goal.invariant-loop-k
invariant-loop-k g l =
    Appends (g.K.Sink.held l.fn.sink) (g.K.Sink.held l.sink) (commas (map point_text (take l.k l.points)))
    × (g.K.Sink.faults l.fn.sink ≤ g.K.Sink.faults l.sink)
