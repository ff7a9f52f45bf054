use Rattle.std.proofs.Common.{sym, ◌∙◌, ap, not, filter, Bool, List, ℕ, ◌++◌, ◌∷◌, []}
use Rattle.bp_base.specs.Tree.{has_child}
use Rattle.bp_metric.proofs.Ranges.{filter_range_more}
use Rattle.bp_metric.proofs.distance.leaves_of.Goals as goal

pub loop-node-preserved : goal.loop-node-preserved
loop-node-preserved c =
    let is_leaf : ℕ → Bool = λ k. not (has_child c.args.tree.now k) in
    c.in_ok-add_if_leaf.ensures ∙ ap (λ (l : List ℕ). l ++ filter is_leaf (c.loop-node.node ∷ [])) c.loop-node.invariant ∙ sym (filter_range_more is_leaf c.loop-node.node)
