use Rattle.std.proofs.Common.{◌≡◌}
use Rattle.bp_bench.proofs.pass_on.Given as goal

abbrev pub invariant-loop : goal.invariant-loop
invariant-loop l = l.hand.pool.leaves ≡ l.leaves
