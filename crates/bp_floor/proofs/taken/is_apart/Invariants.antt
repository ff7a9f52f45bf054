use Rattle.std.proofs.Common.{◌≡◌, nat_le, true, take}
use Rattle.std.specs.List.{list_all}
use Rattle.bp_metric.specs.Distance.{leaf_dist}
use Rattle.bp_floor.proofs.taken.is_apart.Given as goal

abbrev pub invariant-loop-other : goal.invariant-loop-other
invariant-loop-other l =
    list_all (λ k. nat_le l.m (leaf_dist l.metric.tree k l.leaf)) (take l.other-index l.others) ≡ true
