use Rattle.bp_pool.specs.Hands.{IsSameHand}
use Rattle.bp_search_tests.proofs.pool.take_many.Given as goal

abbrev pub invariant-loop : goal.invariant-loop
invariant-loop l = IsSameHand l.fn.hand l.hand
