use Rattle.std.proofs.Common.{◌≡◌}
use Rattle.bp_metric.specs.Samples.{letters}
use Rattle.bp_samples.proofs.trees.names.Given as goal

abbrev pub invariant-loop-number : goal.invariant-loop-number
invariant-loop-number l = l.names.items ≡ letters l.number
