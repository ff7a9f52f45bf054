use Rattle.std.proofs.Common.{◌≡◌}
use Rattle.bp_document.specs.Told.{node_list}
use Rattle.bp_check.specs.Stack.{IsStack, empty_stack, run}
use Rattle.bp_check.specs.Levels.{lines_to_come, size_to_come}
use Rattle.bp_check.proofs.visit.found_in.Given as goal

abbrev pub invariant-loop-level : goal.invariant-loop-level
invariant-loop-level l = record {
  kept : IsStack l.metric.tree l.metric.sheet l.stack;
  lines : run l.metric.tree l.metric.sheet l.stack (lines_to_come l.levels.items) ≡ run l.metric.tree l.metric.sheet empty_stack (node_list l.proof 0);
}

abbrev pub decreases-loop-level : goal.decreases-loop-level
decreases-loop-level l = size_to_come l.levels.items
