use Rattle.std.proofs.Common.{◌≡◌, length}
use Rattle.bp_learn.proofs.learned.placement_of.Given as goal

abbrev pub invariant-loop-leaf : goal.invariant-loop-leaf
invariant-loop-leaf l = length l.points ≡ l.leaf
