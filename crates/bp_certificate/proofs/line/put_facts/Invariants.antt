use Rattle.std.proofs.Common.{◌≤◌, take}
use Rattle.std.specs.List.{flat_map}
use Rattle.bp_base.specs.Causes.{Appends}
use Rattle.bp_certificate.proofs.Parts.{spaced_fact}
use Rattle.bp_certificate.proofs.line.put_facts.Given as goal

abbrev pub invariant-loop-fact : goal.invariant-loop-fact
invariant-loop-fact g l =
    Appends (g.K.Sink.held l.fn.sink) (g.K.Sink.held l.sink) (flat_map spaced_fact (take l.fact-index l.facts))
    × (g.K.Sink.faults l.fn.sink ≤ g.K.Sink.faults l.sink)
