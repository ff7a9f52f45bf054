use Rattle.std.proofs.Common.{◌≡◌, length}
use Rattle.bp_opening.proofs.Packing.{IsFront}
use Rattle.bp_opening.proofs.opening.open.Given as goal

abbrev pub invariant-loop : goal.invariant-loop
invariant-loop l = record {
  counted : length l.points.items ≡ l.counter;
  front : IsFront l.metric.tree l.metric.sheet l.points.items l.side;
}
