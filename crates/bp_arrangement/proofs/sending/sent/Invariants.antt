use Rattle.std.proofs.Common.{◌≡◌, drop}
use Rattle.bp_arrangement.specs.Swaps.{sent}
use Rattle.bp_arrangement.proofs.sending.sent.Given as goal

abbrev pub invariant-loop-pair : goal.invariant-loop-pair
invariant-loop-pair l = sent l.swap l.leaf ≡ sent (drop l.pair-index l.swap) l.leaf
