use Rattle.std.proofs.Common.{◌≡◌, length}
use Rattle.bp_bench.proofs.go_down.Given as goal

abbrev pub invariant-loop-i : goal.invariant-loop-i
invariant-loop-i l = (l.depth ≡ length l.warm.path) × (l.warm.metric ≡ l.fn.warm.metric)
