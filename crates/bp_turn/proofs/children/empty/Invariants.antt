use Rattle.std.proofs.Common.{length}
use Rattle.bp_turn.proofs.children.empty.Given as goal

abbrev pub decreases-loop-tasks : goal.decreases-loop-tasks
decreases-loop-tasks l = length l.tasks
