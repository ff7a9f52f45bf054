use Rattle.std.proofs.Common.{◌≤◌, map, take}
use Rattle.bp_base.specs.Causes.{Appends}
use Rattle.bp_fold.specs.FoldText.{commas, edge_text}
use Rattle.bp_fold.proofs.writing.put_pairs.Given as goal

abbrev pub invariant-loop-k : goal.invariant-loop-k
invariant-loop-k g l =
    Appends (g.K.Sink.held l.fn.sink) (g.K.Sink.held l.sink) (commas (map edge_text (take l.k l.edges)))
    × (g.K.Sink.faults l.fn.sink ≤ g.K.Sink.faults l.sink)
