use Rattle.std.proofs.Common.{◌≡◌}
use Rattle.bp_machine.specs.Facts.{HasFacts}
use Rattle.bp_search_tests.proofs.machine.takes.Given as goal

abbrev pub invariant-loop-event : goal.invariant-loop-event
invariant-loop-event g l = record { metric : l.state.metric ≡ l.metric; facts : HasFacts l.metric.tree l.metric.sheet l.state }
