use Rattle.std.proofs.Common.{◌≤◌, take}
use Rattle.std.specs.List.{flat_map}
use Rattle.bp_base.specs.Causes.{Appends}
use Rattle.bp_document.proofs.Words.{spaced}
use Rattle.bp_document.proofs.line.put_numbers.Given as goal

abbrev pub invariant-loop-number : goal.invariant-loop-number
invariant-loop-number g l =
    Appends (g.K.Sink.held l.fn.sink) (g.K.Sink.held l.sink) (flat_map spaced (take l.number-index l.numbers))
    × (g.K.Sink.faults l.fn.sink ≤ g.K.Sink.faults l.sink)
