use Rattle.std.proofs.Common.{ℕ, ◌<◌, ◌≤◌}
use Rattle.bp_mirror.specs.Flaws.{IsTied}
use Rattle.bp_mirror.proofs.untied.first_flaw.Given as goal

abbrev pub invariant-loop-leaf : goal.invariant-loop-leaf
invariant-loop-leaf l = (k : ℕ) → 1 ≤ k → k < l.leaf → IsTied l.kind l.pairs l.side l.points k
