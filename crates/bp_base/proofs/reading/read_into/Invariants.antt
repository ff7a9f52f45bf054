use Rattle.std.proofs.Common.{◌≤◌}
use Rattle.bp_base.proofs.Pieces.{HasTakenOf}
use Rattle.bp_base.proofs.reading.read_into.Given as goal

abbrev pub invariant-loop : goal.invariant-loop
invariant-loop g l =
    HasTakenOf g.I.TakesBytes.takes l.fn.intake l.intake (g.S.Source.left l.fn.source) (g.S.Source.left l.source) l.count
    × g.I.TakesBytes.is_open l.intake
    × (l.count ≤ l.most)
    × (l.counter ≤ l.count)
    × (g.S.Source.faults l.fn.source ≤ g.S.Source.faults l.source)
