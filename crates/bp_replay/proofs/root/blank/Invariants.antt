use Rattle.std.proofs.Common.{◌≡◌, ℕ, ◌<◌, length, get_or}
use Rattle.bp_replay.specs.Tasks.{system_of}
use Rattle.bp_replay.proofs.root.blank.Given as goal

abbrev pub invariant-loop-at : goal.invariant-loop-at
invariant-loop-at l = (length l.upper ≡ 66) × ((u : ℕ) → u < l.at → get_or l.upper u 0 ≡ (system_of l.given).upper u)
