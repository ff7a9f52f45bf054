use Rattle.std.proofs.Common.{ℕ, ◌+◌, ◌==◌, arith, drop, not, sym, ◌∙◌, ap, cond}
use Rattle.std.specs.List.{list_any}
use Rattle.bp_tree.proofs.Growth.{count_more, count_small}
use Rattle.bp_tree.proofs.leaves.leaf_count.Goals as goal
use Rattle.bp_tree.proofs.leaves.leaf_count.Goals.{then-is_leaf, else-is_leaf}

pub overflow_add-leaves : goal.overflow_add-leaves
overflow_add-leaves c =
    omega (arith, c.loop-node.invariant, count_small (λ (k : ℕ). not (list_any (λ p. p == k) (drop 1 c.args.parents.now))) c.loop-node.node, c.loop-node.auto.node-end)

pub loop-node-preserved : goal.loop-node-preserved
loop-node-preserved c =
    let more = count_more (λ (k : ℕ). not (list_any (λ p. p == k) (drop 1 c.args.parents.now))) c.loop-node.node c.loop-node.leaves c.if-is_leaf.leaves c.is_leaf.result c.is_leaf.ensures c.loop-node.invariant in
    elim c.if-is_leaf.branch [
      | then-is_leaf w ↦ more (w.leaves-is ∙ ap (λ b. c.loop-node.leaves + cond b 1 0) (sym w.if-is_leaf.true))
      | else-is_leaf w ↦ more (w.leaves-is ∙ omega arith ∙ ap (λ b. c.loop-node.leaves + cond b 1 0) (sym w.if-is_leaf.false))
    ]
