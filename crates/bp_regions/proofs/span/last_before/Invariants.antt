use Rattle.std.proofs.Common.{◌≡◌, ℕ, ◌<◌, ◌≤◌, slice_index_or}
use Rattle.bp_regions.specs.Balls.{no_ball}
use Rattle.bp_regions.proofs.span.last_before.Given as goal

abbrev pub invariant-loop-at : goal.invariant-loop-at
invariant-loop-at l = (l.fn.start ≤ l.at) × (l.at ≤ l.end) × ((k : ℕ) → l.at ≤ k → k < l.end → (slice_index_or l.balls k no_ball).radius ≡ 0)

abbrev pub decreases-loop-at : goal.decreases-loop-at
decreases-loop-at l = l.at
