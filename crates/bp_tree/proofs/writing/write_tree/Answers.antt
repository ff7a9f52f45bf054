use Rattle.std.proofs.Common.{◌+◌, ◌-◌, length, arith, ap}
use Rattle.bp_tree.specs.Text.{tree_line, tree_text}
use Rattle.bp_text.proofs.Puts.{range_more, range_exit, range_all}
use Rattle.bp_tree.proofs.ReadBack.{reads_back}
use Rattle.bp_tree.proofs.TwoLeaves.{some_nodes}
use Rattle.bp_tree.proofs.writing.write_tree.Goals as goal

pub returns-in_err-write_edge-clause-text : goal.returns-in_err-write_edge-clause-text
unfolding tree_text
returns-in_err-write_edge-clause-text g c =
    range_exit (tree_line c.args.tree.now) 1 _ _ _ _ _ (c.loop-edge.edge - 1) c.loop-edge.edge (length c.args.tree.now.parents - 1) (omega (arith, c.loop-edge.auto.edge)) (omega (arith, c.loop-edge-test.true, c.loop-edge.auto.edge, ap length c.parents.ensures.value)) c.from_residual.ensures.0 c.loop-edge.invariant.0 c.in_err-write_edge.ensures.text

pub loop-edge-preserved : goal.loop-edge-preserved
loop-edge-preserved g c = (
  range_more (tree_line c.args.tree.now) 1 _ _ _ c.in_ok-write_edge.field-0 (c.loop-edge.edge - 1) c.loop-edge.edge (c.loop-edge.edge + 1 - 1) (omega (arith, c.loop-edge.auto.edge)) (omega (arith, c.loop-edge.auto.edge)) c.loop-edge.invariant.0 c.in_ok-write_edge.ensures.text,
  omega (arith, c.in_ok-write_edge.ensures.cause.later, c.loop-edge.invariant.1),
)

pub returns-clause-text : goal.returns-clause-text
unfolding tree_text
returns-clause-text g c =
    let nodes = some_nodes c.args.tree.now c.parents.ensures.tree in
    let end = c.loop-edge.auto.edge-end (omega (arith, nodes, ap length c.parents.ensures.value)) in
    range_all (tree_line c.args.tree.now) 1 _ _ tt (c.loop-edge.edge - 1) (length c.args.tree.now.parents - 1) (omega (arith, end, c.loop-edge-test.false, ap length c.parents.ensures.value)) c.loop-edge.invariant.0

pub returns-in_err-write_edge-clause-reads_back : goal.returns-in_err-write_edge-clause-reads_back
returns-in_err-write_edge-clause-reads_back g c = reads_back c.args.tree.now c.parents.ensures.tree

pub returns-clause-reads_back : goal.returns-clause-reads_back
returns-clause-reads_back g c = reads_back c.args.tree.now c.parents.ensures.tree
