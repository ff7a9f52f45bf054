use Rattle.std.proofs.Common.{◌≡◌, drop}
use Rattle.bp_arrangement.specs.Swaps.{least}
use Rattle.bp_arrangement.proofs.Heads.{least_with}
use Rattle.bp_arrangement.proofs.sending.least_leaf.Given as goal

abbrev pub invariant-loop-at : goal.invariant-loop-at
invariant-loop-at l = least l.swap ≡ least_with l.leaf (drop l.at l.swap)
