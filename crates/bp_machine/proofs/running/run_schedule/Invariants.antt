use Rattle.std.proofs.Common.{◌≡◌, ℕ, List}
use Rattle.bp_machine.specs.Facts.{HasFacts}
use Rattle.bp_machine.specs.Orderly.{IsOrderly}
use Rattle.bp_machine.specs.Runs.{Runs}
use Rattle.bp_machine.specs.State.{begun}
use Rattle.bp_machine.proofs.Ranks.{steps_left}
use Rattle.bp_machine.proofs.running.run_schedule.Given as goal

abbrev pub invariant-loop-state : goal.invariant-loop-state
invariant-loop-state g l = record {
  metric : l.state.metric ≡ l.metric;
  facts : HasFacts l.metric.tree l.metric.sheet l.state;
  orderly : IsOrderly l.state;
  floor : l.state.floor ≡ l.floor;
  budget : l.state.budget ≡ l.budget;
  run : (answers : List ℕ) × Runs g.Q.Schedule.turns answers (begun l.metric l.opening.side l.floor l.hands l.budget) l.fn.schedule l.state l.schedule;
}

abbrev pub decreases-loop-state : goal.decreases-loop-state
decreases-loop-state g l = steps_left l.state
