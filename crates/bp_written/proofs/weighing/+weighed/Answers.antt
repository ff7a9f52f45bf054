use Rattle.std.proofs.Common.{◌≡◌, ◌<◌, ◌∙◌, ap, arith, List, length, get_or}
use Rattle.bp_base.specs.declared.refutation.Refutation.{Refutation}
use Rattle.bp_metric.specs.Nodes.{node_count_of}
use Rattle.bp_document.proofs.Nodes.{child_smaller}
use Rattle.bp_written.proofs.Weights.{weigh_more, weigh_all, child_fits, closed_leaves, open_leaves, closed_weighs, open_weighs}
use Rattle.bp_written.proofs.weighing.+weighed.Goals as goal

pub weighed-requires : goal.weighed-requires
weighed-requires t c =
    let child = c.child-item.result in
    let children = c.in-Split.children in
    let k = c.loop-child.child-index in
    let less : k < length children = omega (arith, c.loop-child-test.true, ap length c.as_slice-child-items.ensures) in
    let is : child ≡ get_or children k child = c.child-item.is ∙ ap (λ (l : List Refutation). get_or l k child) c.as_slice-child-items.ensures in (
      omega (arith, child_smaller c.in-Split.pair children k child child less is, ap node_count_of c.in-Split.is),
      child_fits c.args.metric.now.tree c.args.metric.now.sheet c.in-Split.pair children children c.args.refutation.now k child c.in-Split.is (λ i. children) c.requires less is,
    )

pub loop-child-preserved : goal.loop-child-preserved
loop-child-preserved t c =
    c.lesser-least.ensures
    ∙ weigh_more c.args.metric.now.tree c.args.metric.now.sheet c.as_slice-child-items.result.now c.loop-child.child-index c.child-item.result c.loop-child.least c.weighed.result c.loop-child-test.true c.child-item.is c.weighed.ensures c.loop-child.invariant

pub counted-requires : goal.counted-requires
counted-requires t c = closed_leaves c.args.metric.now.tree c.args.metric.now.sheet c.args.refutation.now c.in-Closed.claim c.in-Closed.is c.requires

pub counted-requires-in-Open : goal.counted-requires-in-Open
counted-requires-in-Open t c = open_leaves c.args.metric.now.tree c.args.metric.now.sheet c.args.refutation.now c.in-Open.claim c.in-Open.is c.requires

pub returns-after-loop-child : goal.returns-after-loop-child
returns-after-loop-child t c =
    weigh_all c.args.metric.now.tree c.args.metric.now.sheet c.in-Split.pair c.in-Split.children c.as_slice-child-items.result.now c.args.refutation.now c.loop-child.child-index c.loop-child.least c.in-Split.is c.as_slice-child-items.ensures c.loop-child-test.false c.loop-child.invariant

pub returns-in-Closed : goal.returns-in-Closed
returns-in-Closed t c = c.counted.ensures ∙ closed_weighs c.args.metric.now.tree c.args.metric.now.sheet c.args.refutation.now c.in-Closed.claim c.in-Closed.is

pub returns-in-Open : goal.returns-in-Open
returns-in-Open t c = c.counted-in-Open.ensures ∙ open_weighs c.args.metric.now.tree c.args.metric.now.sheet c.args.refutation.now c.in-Open.claim c.in-Open.is
