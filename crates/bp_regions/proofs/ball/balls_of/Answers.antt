use Rattle.std.proofs.Common.{◌∙◌, arith, ap, length}
use Rattle.bp_base.specs.Tree.{TreeValue}
use Rattle.bp_metric.proofs.Distances.{leaf_node_within}
use Rattle.bp_regions.proofs.Rows.{rows_more, rows_done}
use Rattle.bp_regions.proofs.ball.balls_of.Goals as goal

pub loop-edge-preserved : goal.loop-edge-preserved
loop-edge-preserved c =
    rows_more c.args.metric.now.tree c.args.points.now c.loop-edge.balls.items c.add_row.new.balls.items c.loop-edge.edge c.loop-edge.auto.edge c.loop-edge.invariant c.in_ok-add_row.ensures

pub returns : goal.returns
returns c =
    let T = c.args.metric.now.tree in
    let t = c.tree.ensures.metric.tree in
    let some = leaf_node_within T t 1 (omega arith, omega (arith, t.leaves_enough)) in
    let count = ap length (c.parents.ensures.value ∙ ap (λ (v : TreeValue). v.parents) c.tree.ensures.tree) in
    let end = c.loop-edge.auto.edge-end (omega (arith, some, count)) in
    rows_done T c.args.points.now c.loop-edge.balls.items c.loop-edge.edge (omega (arith, c.loop-edge-test.false, end, count)) c.loop-edge.invariant
