use Rattle.std.proofs.Common.{ℕ, ◌<◌, slice_index_or}
use Rattle.bp_regions.specs.Balls.{no_ball}
use Rattle.bp_regions.specs.Cells.{IsInBall}
use Rattle.bp_regions.proofs.ball.holds_any.Given as goal

abbrev pub invariant-loop-ball : goal.invariant-loop-ball
invariant-loop-ball l = (k : ℕ) → k < l.ball-index → IsInBall (slice_index_or l.balls k no_ball).at (slice_index_or l.balls k no_ball).radius l.x l.y → ⊥
