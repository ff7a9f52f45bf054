use Rattle.bp_path_tests.specs.Searches.{CanJoin}
use Rattle.bp_path_tests.proofs.join.searched.Given as goal

abbrev pub invariant-loop-turn : goal.invariant-loop-turn
invariant-loop-turn l = CanJoin l.metric.tree l.metric.sheet l.records.items l.left.items
