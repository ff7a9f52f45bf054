use Rattle.std.proofs.Common.{◌≤◌, take}
use Rattle.std.specs.List.{flat_map}
use Rattle.bp_base.specs.Causes.{Appends}
use Rattle.bp_certificate.proofs.Parts.{spaced_pair}
use Rattle.bp_certificate.proofs.line.put_pairs.Given as goal

abbrev pub invariant-loop-pair : goal.invariant-loop-pair
invariant-loop-pair g l =
    Appends (g.K.Sink.held l.fn.sink) (g.K.Sink.held l.sink) (flat_map spaced_pair (take l.pair-index l.swap))
    × (g.K.Sink.faults l.fn.sink ≤ g.K.Sink.faults l.sink)
