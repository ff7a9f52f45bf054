use Rattle.std.proofs.Common.{◌≡◌, map, take}
use Rattle.bp_arrangement.specs.Swaps.{head}
use Rattle.bp_replay.proofs.replay.heads_of.Given as goal

abbrev pub invariant-loop-swap : goal.invariant-loop-swap
invariant-loop-swap l = l.heads.items ≡ map head (take l.swap-index l.swaps)
