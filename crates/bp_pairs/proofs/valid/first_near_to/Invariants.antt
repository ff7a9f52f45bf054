use Rattle.std.proofs.Common.{ℕ, ◌<◌}
use Rattle.bp_pairs.specs.Flaws.{AreFar}
use Rattle.bp_pairs.proofs.valid.first_near_to.Given as goal

abbrev pub invariant-loop-j : goal.invariant-loop-j
invariant-loop-j l = (k : ℕ) → l.i < k → k < l.j → AreFar l.metric.tree l.points l.i k
