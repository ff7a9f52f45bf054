use Rattle.std.proofs.Common.{◌≡◌, ℕ, ◌<◌, ◌≤◌, get_or}
use Rattle.bp_walks.proofs.opens.first_open.Given as goal

abbrev pub invariant-loop-leaf : goal.invariant-loop-leaf
invariant-loop-leaf l = (i : ℕ) → 1 ≤ i → i < l.leaf → get_or l.open i 0 ≡ 0
