use Rattle.std.proofs.Common.{◌-◌, List}
use Rattle.bp_base.specs.declared.point.Point.{Point}
use Rattle.bp_metric.specs.Steady.{IsSteady}
use Rattle.bp_steady.specs.Searching.{StandsAt}
use Rattle.bp_steady.specs.Stack.{IsGuided}
use Rattle.bp_steady.proofs.Looking.{IsLooking}
use Rattle.bp_steady.proofs.answering.least_at.Given as goal

abbrev pub decreases-loop-low : goal.decreases-loop-low
decreases-loop-low l = l.high - l.low

abbrev pub invariant-loop-low : goal.invariant-loop-low
invariant-loop-low l = record {
  guided : IsGuided l.metric.tree l.bounds l.fn.at l.high l.path.guide.items;
  looking :
      (P : List Point)
      → IsSteady l.metric.tree l.metric.sheet l.fn._side P
      → StandsAt l.metric.tree l.metric.sheet l.fn._side P l.fn.at l.fn.bounds
      → IsLooking l.metric.tree l.metric.sheet l.fn._side P l.fn.at l.fn.left l.left l.bounds l.low l.high;
}
