use Rattle.std.proofs.Common.{◌≡◌, ◌-◌}
use Rattle.bp_floor.specs.Best.{AreApart}
use Rattle.bp_floor.proofs.Walks.{taken_to}
use Rattle.bp_floor.proofs.taken.taken_of.Given as goal

abbrev pub invariant-loop-leaf : goal.invariant-loop-leaf
invariant-loop-leaf l =
    (l.leaves.items ≡ taken_to l.metric.tree l.m (l.leaf - 1)) × AreApart l.metric.tree l.m (l.leaf - 1) l.leaves.items
