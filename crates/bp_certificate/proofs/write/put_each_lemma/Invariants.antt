use Rattle.std.proofs.Common.{◌≤◌, take}
use Rattle.std.specs.List.{flat_map}
use Rattle.bp_base.specs.Causes.{Appends}
use Rattle.bp_certificate.specs.Lines.{lemma_line}
use Rattle.bp_certificate.proofs.write.put_each_lemma.Given as goal

abbrev pub invariant-loop-lemma : goal.invariant-loop-lemma
invariant-loop-lemma g l =
    Appends (g.K.Sink.held l.fn.sink) (g.K.Sink.held l.sink) (flat_map lemma_line (take l.lemma-index l.lemmas))
    × (g.K.Sink.faults l.fn.sink ≤ g.K.Sink.faults l.sink)
