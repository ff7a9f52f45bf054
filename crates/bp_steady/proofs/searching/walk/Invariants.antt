use Rattle.std.proofs.Common.{◌≡◌, ◌≤◌}
use Rattle.bp_steady.specs.Searching.{IsRising}
use Rattle.bp_steady.specs.Stack.{IsLed, IsOpen}
use Rattle.bp_steady.proofs.searching.walk.Given as goal

abbrev pub invariant-loop-left : goal.invariant-loop-left
invariant-loop-left l = record {
  opened : IsOpen l.metric.tree l.bounds l._budget l.path.steps.items l.path.rows.items l.left;
  rising : IsRising l.metric.tree l.path.steps.items l.bounds l.row;
  led : IsLed l.path.led l.path.steps.items l.path.guide.items;
  guide : l.path.guide.items ≡ l.fn.path.guide.items;
  fewer : l.left ≤ l.fn.left;
}

abbrev pub decreases-loop-left : goal.decreases-loop-left
decreases-loop-left l = l.left
