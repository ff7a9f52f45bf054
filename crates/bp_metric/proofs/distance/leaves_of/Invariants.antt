use Rattle.std.proofs.Common.{◌≡◌, not, filter}
use Rattle.std.specs.List.{range_with_len}
use Rattle.bp_base.specs.Tree.{has_child}
use Rattle.bp_metric.proofs.distance.leaves_of.Given as goal

abbrev pub invariant-loop-node : goal.invariant-loop-node
invariant-loop-node l = l.leaves.items ≡ filter (λ k. not (has_child l.tree k)) (range_with_len 0 l.node)
