use Rattle.std.proofs.Common.{◌≤◌, take}
use Rattle.std.specs.List.{flat_map}
use Rattle.bp_base.specs.Causes.{Appends}
use Rattle.bp_certificate.proofs.Parts.{spaced_hint}
use Rattle.bp_certificate.proofs.line.put_hints.Given as goal

abbrev pub invariant-loop-hint : goal.invariant-loop-hint
invariant-loop-hint g l =
    Appends (g.K.Sink.held l.fn.sink) (g.K.Sink.held l.sink) (flat_map spaced_hint (take l.hint-index l.hints))
    × (g.K.Sink.faults l.fn.sink ≤ g.K.Sink.faults l.sink)
