use Rattle.std.proofs.Common.{◌≡◌, ◌+◌, length}
use Rattle.bp_bench.proofs.go_up.Given as goal

abbrev pub invariant-loop : goal.invariant-loop
invariant-loop l = (length l.warm.path + l.counter ≡ l.depth) × (l.warm.metric ≡ l.fn.warm.metric)
