use Rattle.std.proofs.Common.{All, take}
use Rattle.bp_arrangement.specs.Swaps.{IsAdmissible}
use Rattle.bp_arrangement.proofs.admissible.first_inadmissible.Given as goal

abbrev pub invariant-loop-at : goal.invariant-loop-at
invariant-loop-at l = All (IsAdmissible l.metric.tree l.a l.b) (take l.at l.swaps)
