use Rattle.bp_steady.specs.Searching.{IsRising}
use Rattle.bp_steady.proofs.Pulling.{SoFar}
use Rattle.bp_steady.proofs.rising.pass.Given as goal

abbrev pub invariant-loop-step : goal.invariant-loop-step
invariant-loop-step l = record {
  rising : IsRising l.metric.tree l.steps l.bounds l.row;
  so_far : SoFar l.metric.tree l.steps l.initial.row l.row l.step-index l.all;
}
