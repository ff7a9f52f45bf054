use Rattle.bp_pool.specs.Hands.{IsSameHand}
use Rattle.bp_search_tests.proofs.pool.hold_turn.Given as goal

abbrev pub invariant-loop-k : goal.invariant-loop-k
invariant-loop-k l = IsSameHand l.fn.hand l.hand
