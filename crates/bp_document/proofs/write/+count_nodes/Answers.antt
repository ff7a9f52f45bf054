use Rattle.std.proofs.Common.{◌≡◌, ◌<◌, ◌∙◌, ap, sym, arith, List, length, get_or}
use Rattle.bp_base.specs.declared.refutation.Refutation.{Refutation}
use Rattle.bp_metric.specs.Nodes.{node_count_of}
use Rattle.bp_document.proofs.Nodes.{child_smaller}
use Rattle.bp_document.proofs.Counts.{count-closed, count-open, count_all, count_within}
use Rattle.bp_document.proofs.write.+count_nodes.Goals as goal

pub count_nodes-total-requires : goal.count_nodes-total-requires
count_nodes-total-requires t c =
    let child = c.child-item.result in
    let children = c.in-Split.children in
    let k = c.loop-child.child-index in
    let less : k < length children = omega (arith, c.loop-child-test.true, ap length c.as_slice-child-items.ensures) in
    let is : child ≡ get_or children k child = c.child-item.is ∙ ap (λ (l : List Refutation). get_or l k child) c.as_slice-child-items.ensures in
    let fewer = child_smaller c.in-Split.pair children k child child less is in
    (omega (arith, fewer, ap node_count_of c.in-Split.is), omega (arith, fewer, c.requires, ap node_count_of c.in-Split.is))

pub overflow_add-total : goal.overflow_add-total
overflow_add-total t c =
    let within = count_within c.in-Split.pair c.in-Split.children c.as_slice-child-items.result.now c.args.refutation.now c.loop-child.child-index c.child-item.result c.loop-child.total c.count_nodes-total.result c.in-Split.is c.as_slice-child-items.ensures c.loop-child-test.true c.child-item.is c.count_nodes-total.ensures c.loop-child.invariant in
    omega (arith, within, c.requires)

pub returns-after-loop-child : goal.returns-after-loop-child
returns-after-loop-child t c =
    count_all c.in-Split.pair c.in-Split.children c.as_slice-child-items.result.now c.args.refutation.now c.loop-child.child-index c.loop-child.total c.in-Split.is c.as_slice-child-items.ensures c.loop-child-test.false c.loop-child.invariant

pub returns-in-Closed : goal.returns-in-Closed
returns-in-Closed t c = sym (ap node_count_of c.in-Closed.is ∙ count-closed c.in-Closed.claim)

pub returns-in-Open : goal.returns-in-Open
returns-in-Open t c = sym (ap node_count_of c.in-Open.is ∙ count-open c.in-Open.claim)
