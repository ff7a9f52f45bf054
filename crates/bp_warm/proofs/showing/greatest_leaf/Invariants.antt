use Rattle.std.proofs.Common.{ℕ, ◌<◌, ◌≤◌, get_or, length}
use Rattle.bp_warm.proofs.showing.greatest_leaf.Given as goal

abbrev pub invariant-loop-k : goal.invariant-loop-k
invariant-loop-k l =
    (l.best < length l.row) × ((m : ℕ) → m < l.k → get_or l.row m 0 ≤ get_or l.row l.best 0) × ((m : ℕ) → m < l.best → get_or l.row m 0 < get_or l.row l.best 0) × (l.best ≤ l.k)
