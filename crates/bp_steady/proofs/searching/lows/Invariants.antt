use Rattle.std.proofs.Common.{◌≡◌, ℕ, ◌≤◌, ◌<◌, length}
use Rattle.std.specs.Prelude.{slice_index}
use Rattle.bp_base.specs.Limits.{most_number}
use Rattle.bp_steady.proofs.searching.lows.Given as goal

abbrev pub invariant-loop-at : goal.invariant-loop-at
invariant-loop-at l = record {
  each : length l.row ≡ 64;
  so_far : (k : ℕ) → k < l.at → slice_index l.row k ≡ slice_index l.bounds.low k;
  small : (k : ℕ) → slice_index l.row k ≤ most_number;
}
