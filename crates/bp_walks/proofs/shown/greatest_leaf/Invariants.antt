use Rattle.std.proofs.Common.{ℕ, ◌<◌, ◌≤◌, get_or}
use Rattle.bp_walks.proofs.shown.greatest_leaf.Given as goal

abbrev pub invariant-loop-leaf : goal.invariant-loop-leaf
invariant-loop-leaf l = (1 ≤ l.best) × (l.best ≤ l.n) × ((i : ℕ) → 1 ≤ i → i < l.leaf → get_or l.lows i 0 ≤ get_or l.lows l.best 0) × ((i : ℕ) → 1 ≤ i → i < l.best → get_or l.lows i 0 < get_or l.lows l.best 0)
