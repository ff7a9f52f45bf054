use Rattle.std.proofs.Common.{◌≡◌}
use Rattle.bp_path_tests.proofs.warm.go_along.Given as goal

abbrev pub invariant-loop-steps : goal.invariant-loop-steps
invariant-loop-steps g l = (l.metric ≡ l.warm.metric) × (l.warm.metric ≡ l.fn.warm.metric)
