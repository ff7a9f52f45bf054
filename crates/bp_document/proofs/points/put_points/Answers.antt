use Rattle.std.proofs.Common.{◌≡◌, ◌<◌, length, arith, ap}
use Rattle.bp_base.specs.Tree.{node_count}
use Rattle.bp_document.proofs.Leaves.{room, points_more, points_exit, points_all, count_next}
use Rattle.bp_document.proofs.points.put_points.Goals as goal

pub put_if_leaf-requires-clause-point : goal.put_if_leaf-requires-clause-point
put_if_leaf-requires-clause-point g c =
    let within : c.loop-node.node < node_count c.args.tree.now = omega (arith, c.loop-node-test.true, ap length c.parents.ensures.value) in
    room c.args.tree.now c.args.points.now c.loop-node.node c.loop-node.leaves c.requires c.loop-node.invariant.1 within

pub returns-in_err-leaves-clause-text : goal.returns-in_err-leaves-clause-text
returns-in_err-leaves-clause-text g c =
    let within : c.loop-node.node < node_count c.args.tree.now = omega (arith, c.loop-node-test.true, ap length c.parents.ensures.value) in
    points_exit c.args.tree.now c.args.points.now c.loop-node.node c.loop-node.leaves c.requires c.loop-node.invariant.1 _ _ _ _ _ within c.from_residual.ensures.0 c.loop-node.invariant.0 c.in_err-leaves.ensures.text

pub loop-node-preserved : goal.loop-node-preserved
loop-node-preserved g c =
    let within : c.loop-node.node < node_count c.args.tree.now = omega (arith, c.loop-node-test.true, ap length c.parents.ensures.value) in (
      points_more c.args.tree.now c.args.points.now c.loop-node.node c.loop-node.leaves c.requires c.loop-node.invariant.1 _ _ _ c.in_ok-leaves.leaves within c.loop-node.invariant.0 c.in_ok-leaves.ensures.text,
      count_next c.args.tree.now c.loop-node.node c.loop-node.leaves c.in_ok-leaves.leaves c.loop-node.invariant.1 c.in_ok-leaves.ensures.count,
      omega (arith, c.in_ok-leaves.ensures.cause.later, c.loop-node.invariant.2),
    )

pub returns-clause-text : goal.returns-clause-text
returns-clause-text g c =
    let done : c.loop-node.node ≡ node_count c.args.tree.now = omega (arith, c.loop-node-test.false, ap length c.parents.ensures.value, c.loop-node.auto.node-end) in
    points_all c.args.tree.now c.args.points.now c.loop-node.node _ _ _ done c.loop-node.invariant.0
