use Rattle.std.proofs.Common.{◌≡◌, ℕ, ◌<◌, ◌≤◌, ◌-◌, length, get_or}
use Rattle.bp_fold.specs.Numbering.{corner_at}
use Rattle.bp_fold.proofs.runs.number_of.Given as goal

abbrev pub invariant-loop-high : goal.invariant-loop-high
invariant-loop-high l =
    (l.low < l.high) × (l.high ≤ length l.corners)
    × ((k : ℕ) → k < length l.corners → get_or l.corners k (corner_at l.column l.row) ≡ corner_at l.column l.row → (l.low ≤ k) × (k < l.high))

abbrev pub decreases-loop-high : goal.decreases-loop-high
decreases-loop-high l = l.high - l.low
