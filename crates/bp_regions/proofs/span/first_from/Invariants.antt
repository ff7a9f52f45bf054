use Rattle.std.proofs.Common.{◌≡◌, ℕ, ◌<◌, ◌≤◌, slice_index_or}
use Rattle.bp_regions.specs.Balls.{no_ball}
use Rattle.bp_regions.proofs.span.first_from.Given as goal

abbrev pub invariant-loop-at : goal.invariant-loop-at
invariant-loop-at l = (k : ℕ) → l.fn.start ≤ k → k < l.at → (slice_index_or l.balls k no_ball).radius ≡ 0
