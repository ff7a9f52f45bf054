use Rattle.std.proofs.Common.{◌≡◌}
use Rattle.bp_steady.specs.Stack.{IsLed, IsReached}
use Rattle.bp_steady.proofs.searching.ask.Given as goal

abbrev pub invariant-loop-pair : goal.invariant-loop-pair
invariant-loop-pair l = record {
  reached : IsReached l.metric.tree l.bounds l.budget l.path.steps.items l.path.rows.items l.row l.left;
  led : IsLed l.path.led l.path.steps.items l.path.guide.items;
  guide : l.path.guide.items ≡ l.fn.path.guide.items;
}

abbrev pub decreases-loop-pair : goal.decreases-loop-pair
decreases-loop-pair l = l.left
