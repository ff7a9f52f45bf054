use Rattle.std.proofs.Common.{◌≡◌, ◌==◌, length, drop, filter, not}
use Rattle.std.specs.List.{list_any, range_with_len}
use Rattle.bp_tree.proofs.leaves.leaf_count.Given as goal

abbrev pub invariant-loop-node : goal.invariant-loop-node
invariant-loop-node l = l.leaves ≡ length (filter (λ k. not (list_any (λ p. p == k) (drop 1 l.parents))) (range_with_len 0 l.node))
