use Rattle.std.proofs.Common.{map}
use Rattle.bp_arrangement.specs.Swaps.{head}
use Rattle.bp_solve.specs.Steps.{AreFed, task_of}
use Rattle.bp_solve.proofs.replaying.standing.Given as goal

abbrev pub invariant-loop-number : goal.invariant-loop-number
invariant-loop-number l = AreFed (task_of l.metric.tree l.metric.sheet l.bound l.fn.corner (map head l.swaps)) l.lemmas l.replay
