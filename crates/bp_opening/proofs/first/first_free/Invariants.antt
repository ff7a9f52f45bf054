use Rattle.std.proofs.Common.{ℕ, ◌+◌, ◌<◌, length}
use Rattle.bp_opening.specs.Sums.{AtMost, CanStand, IsLeastInColumn, beside, start_on}
use Rattle.bp_opening.proofs.first.first_free.Given as goal

abbrev pub invariant-loop-column : goal.invariant-loop-column
invariant-loop-column l = record {
  stands : CanStand l.metric.tree l.metric.sheet l.points l.best;
  no_later : AtMost l.metric.sheet l.best (start_on l.metric.sheet (length l.points));
  least : (a : ℕ) → a < l.column → IsLeastInColumn l.metric.tree l.metric.sheet l.points (beside l.metric.tree l.points a).x l.best (length l.points + 1);
}
