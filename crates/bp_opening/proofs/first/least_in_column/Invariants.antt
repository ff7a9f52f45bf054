use Rattle.bp_opening.specs.Sums.{AtMost, CanStand, IsLeastInColumn}
use Rattle.bp_opening.proofs.first.least_in_column.Given as goal

abbrev pub invariant-loop-row : goal.invariant-loop-row
invariant-loop-row l = record {
  stands : CanStand l.metric.tree l.metric.sheet l.points l.best;
  no_later : AtMost l.metric.sheet l.best l.fn.start;
  least : IsLeastInColumn l.metric.tree l.metric.sheet l.points l.x l.best l.row;
}
