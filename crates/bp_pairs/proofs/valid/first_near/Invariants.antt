use Rattle.std.proofs.Common.{ℕ, ◌<◌}
use Rattle.bp_metric.specs.Valid.{IsPair}
use Rattle.bp_pairs.specs.Flaws.{AreFar}
use Rattle.bp_pairs.proofs.valid.first_near.Given as goal

abbrev pub invariant-loop-i : goal.invariant-loop-i
invariant-loop-i l = (k m : ℕ) → IsPair l.metric.tree k m → k < l.i → AreFar l.metric.tree l.points k m
