use Rattle.std.proofs.Common.{◌≤◌, take}
use Rattle.std.specs.List.{flat_map}
use Rattle.bp_base.specs.Causes.{Appends}
use Rattle.bp_certificate.specs.Lines.{swap_line}
use Rattle.bp_certificate.proofs.write.put_each_swap.Given as goal

abbrev pub invariant-loop-swap : goal.invariant-loop-swap
invariant-loop-swap g l =
    Appends (g.K.Sink.held l.fn.sink) (g.K.Sink.held l.sink) (flat_map swap_line (take l.swap-index l.swaps))
    × (g.K.Sink.faults l.fn.sink ≤ g.K.Sink.faults l.sink)
