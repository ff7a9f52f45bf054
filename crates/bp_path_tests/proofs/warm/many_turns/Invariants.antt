use Rattle.std.proofs.Common.{◌≡◌, ◌<◌, length}
use Rattle.bp_path_tests.proofs.warm.many_turns.Given as goal

abbrev pub invariant-loop : goal.invariant-loop
invariant-loop g l = (l.metric ≡ l.warm.metric) × (length l.warm.path ≡ length l.steps.items) × (l.state < 2147483648)
