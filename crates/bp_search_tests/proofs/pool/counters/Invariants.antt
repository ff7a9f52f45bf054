use Rattle.std.proofs.Common.{◌≡◌, length}
use Rattle.bp_search_tests.proofs.pool.counters.Given as goal

abbrev pub invariant-loop : goal.invariant-loop
invariant-loop l = length l.counts.items ≡ l.counter
