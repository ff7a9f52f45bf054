use Rattle.std.proofs.Common.{◌≡◌, ◌+◌, ◌-◌, ◌<◌, arith}
use Rattle.bp_base.specs.Tree.{leaf_count}
use Rattle.bp_text.proofs.Puts.{range_more, range_exit, range_all}
use Rattle.bp_picture.specs.PictureText.{tip_text}
use Rattle.bp_picture.proofs.tip.put_each_tip.Goals as goal

pub loop-leaf-preserved : goal.loop-leaf-preserved
loop-leaf-preserved g c = (
  range_more (tip_text c.args.metric.now.tree c.args.side c.args.points.now) 1 _ _ _ c.in_ok-put_tip.field-0 _ c.loop-leaf.leaf _ (omega (arith, c.loop-leaf.auto.leaf)) (omega (arith, c.loop-leaf.auto.leaf)) c.loop-leaf.invariant.0 c.in_ok-put_tip.ensures.text,
  omega (arith, c.in_ok-put_tip.ensures.cause.later, c.loop-leaf.invariant.1),
)

pub returns-in_err-put_tip-clause-text : goal.returns-in_err-put_tip-clause-text
returns-in_err-put_tip-clause-text g c =
    let i = c.loop-leaf.leaf in
    let n = leaf_count c.args.metric.now.tree in
    let here : i ≡ 1 + (i - 1) = omega (arith, c.loop-leaf.auto.leaf) in
    let less : i - 1 < n = omega (arith, c.loop-leaf.auto.leaf, c.loop-leaf-test.true, c.leaves-leaf-end.ensures.count) in
    range_exit (tip_text c.args.metric.now.tree c.args.side c.args.points.now) 1 _ _ _ _ _ (i - 1) i n here less c.from_residual.ensures.0 c.loop-leaf.invariant.0 c.in_err-put_tip.ensures.text

pub returns-clause-text : goal.returns-clause-text
returns-clause-text g c =
    range_all (tip_text c.args.metric.now.tree c.args.side c.args.points.now) 1 _ _ _ (c.loop-leaf.leaf - 1) (leaf_count c.args.metric.now.tree) (omega (arith, c.loop-leaf.auto.leaf, c.loop-leaf.auto.leaf-end, c.loop-leaf-test.false, c.leaves-leaf-end.ensures.count)) c.loop-leaf.invariant.0
