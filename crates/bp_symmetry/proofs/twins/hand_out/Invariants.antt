use Rattle.std.proofs.Common.{All}
use Rattle.bp_base.specs.Point.{IsSmallPoint}
use Rattle.bp_symmetry.proofs.HandOut.{IsHanding}
use Rattle.bp_symmetry.proofs.twins.hand_out.Given as goal

abbrev pub invariant-loop-number : goal.invariant-loop-number
invariant-loop-number l = record {
  handing : IsHanding l.metric.tree l.initial.points l.points l.number;
  small : All IsSmallPoint l.points;
}
