use Rattle.bp_metric.proofs.Distances.{parent_within, below_step, below_here}
use Rattle.bp_metric.proofs.distance.is_below.Goals as goal

pub loop-node-preserved : goal.loop-node-preserved
loop-node-preserved c =
    let t = c.parents-parents.ensures.tree in
    let T = c.args.tree.now in (
      parent_within T t c.parents-parents.result.now c.parents-parents.ensures.value c.loop-node.node c.loop-node.invariant.0,
      below_step T t c.parents-parents.result.now c.parents-parents.ensures.value c.loop-node.node c.args.node c.args.edge c.loop-node-test.true c.loop-node.invariant.1,
    )

pub returns : goal.returns
returns c =
    below_here c.args.tree.now c.parents-parents.ensures.tree c.loop-node.node c.args.node c.args.edge c.requires.edge c.loop-node-test.false c.loop-node.invariant.1
