use Rattle.std.proofs.Common.{ℕ, ◌<◌, ◌≤◌, get_or}
use Rattle.bp_metric.specs.Chains.{Places}
use Rattle.bp_walks.proofs.opens.ready.Given as goal

abbrev pub invariant-loop-leaf : goal.invariant-loop-leaf
invariant-loop-leaf l = (i : ℕ) → 1 ≤ i → i < l.leaf → 1 ≤ get_or l.open i 0 → (p : ℕ) × Places l.path l.axis p i × (1 ≤ get_or l.open p 0)
