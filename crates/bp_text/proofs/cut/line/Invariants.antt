use Rattle.std.proofs.Common.{◌≢◌, ◌<◌, ◌≤◌, ℕ, get_or}
use Rattle.bp_text.proofs.cut.line.Given as goal

abbrev pub invariant-loop-to : goal.invariant-loop-to
invariant-loop-to l = (k : ℕ) → l.at ≤ k → k < l.to → get_or l.bytes k 0 ≢ 10
