use Rattle.std.proofs.Common.{arith, ◌<◌, length, ap, sym, ◌∙◌}
use Rattle.bp_base.specs.Tree.{node_count}
use Rattle.bp_document.proofs.LineSteps.{leaf_found, leaf_counted, none_counted}
use Rattle.bp_document.proofs.point_step.leaf_at.Goals as goal
use Rattle.bp_document.proofs.point_step.leaf_at.Goals.{then-not-has_child+else-leaves-place, else-not-has_child}

pub returns-then-leaves-place-clause-place : goal.returns-then-leaves-place-clause-place
returns-then-leaves-place-clause-place c =
    let within : c.loop-node.node < node_count c.args.tree.now = omega (arith, c.loop-node-test.true, ap length c.parents.ensures.value) in
    let f = leaf_found c.args.tree.now c.loop-node.node c.args.place within (sym c.has_child.ensures ∙ c.if-not-has_child.true) (sym c.loop-node.invariant.0 ∙ c.if-leaves-place.true) in
    (within, f.0, f.1)

pub loop-node-preserved : goal.loop-node-preserved
loop-node-preserved c = elim c.if-not-has_child.branch [
  | then-not-has_child+else-leaves-place w ↦
      (w.leaves-is ∙ leaf_counted c.args.tree.now c.loop-node.node c.loop-node.leaves c.loop-node.invariant.0 (sym c.has_child.ensures ∙ w.if-not-has_child.true), omega (arith, w.leaves-is, c.loop-node.invariant.1, w.if-leaves-place.false))
  | else-not-has_child w ↦
      (w.leaves-is ∙ none_counted c.args.tree.now c.loop-node.node c.loop-node.leaves c.loop-node.invariant.0 (sym c.has_child.ensures ∙ w.if-not-has_child.false), omega (arith, w.leaves-is, c.loop-node.invariant.1))
]
