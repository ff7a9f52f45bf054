use Rattle.std.proofs.Common.{◌≡◌, ℕ, ◌-◌, ◌*◌, ◌<◌, ◌≤◌, length, slice_index_or}
use Rattle.bp_regions.specs.Balls.{IsSpan, no_span}
use Rattle.bp_regions.proofs.span.spans_of.Given as goal

abbrev pub invariant-loop-start : goal.invariant-loop-start
invariant-loop-start l = record {
  within : l.start ≤ length l.balls;
  at : l.start ≡ length l.spans.items * l.each;
  spans : (k : ℕ) → k < length l.spans.items → IsSpan l.balls (k * l.each) l.each (slice_index_or l.spans.items k no_span);
}

abbrev pub decreases-loop-start : goal.decreases-loop-start
decreases-loop-start l = length l.balls - l.start
