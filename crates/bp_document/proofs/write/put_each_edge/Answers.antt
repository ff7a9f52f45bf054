use Rattle.std.proofs.Common.{◌≡◌, ◌+◌, ◌-◌, ◌<◌, length, ap, arith}
use Rattle.bp_base.specs.Tree.{node_count}
use Rattle.bp_text.proofs.Puts.{range_more, range_exit}
use Rattle.bp_document.specs.Lines.{edge_line}
use Rattle.bp_document.proofs.write.put_each_edge.Goals as goal

pub loop-edge-preserved : goal.loop-edge-preserved
loop-edge-preserved g c = (
  range_more (edge_line c.args.tree.now) 1 _ _ _ c.in_ok-put_edge.field-0 _ c.loop-edge.edge _ (omega (arith, c.loop-edge.auto.edge)) (omega (arith, c.loop-edge.auto.edge)) c.loop-edge.invariant.0 c.in_ok-put_edge.ensures.text,
  omega (arith, c.in_ok-put_edge.ensures.cause.later, c.loop-edge.invariant.1),
)

pub returns-in_err-put_edge-clause-text : goal.returns-in_err-put_edge-clause-text
returns-in_err-put_edge-clause-text g c =
    let e = c.loop-edge.edge in
    let n = node_count c.args.tree.now in
    let here : e ≡ 1 + (e - 1) = omega (arith, c.loop-edge.auto.edge) in
    let less : e - 1 < n - 1 = omega (arith, c.loop-edge.auto.edge, c.loop-edge-test.true, ap length c.parents.ensures.value) in
    range_exit (edge_line c.args.tree.now) 1 _ _ _ _ _ (e - 1) e (n - 1) here less c.from_residual.ensures.0 c.loop-edge.invariant.0 c.in_err-put_edge.ensures.text
