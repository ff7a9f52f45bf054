use Rattle.std.proofs.Common.{◌≡◌, length}
use Rattle.bp_bench.proofs.timed.Given as goal

abbrev pub invariant-loop : goal.invariant-loop
invariant-loop g l = (length l.warm.path ≡ 0) × (l.metric ≡ l.warm.metric)
