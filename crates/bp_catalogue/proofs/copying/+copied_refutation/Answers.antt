use Rattle.std.proofs.Common.{◌≡◌, ◌<◌, ◌∙◌, ap, arith, List, length, get_or}
use Rattle.bp_base.specs.declared.refutation.Refutation.{Refutation}
use Rattle.bp_metric.specs.Nodes.{node_count_of}
use Rattle.bp_document.proofs.Nodes.{child_smaller}
use Rattle.bp_catalogue.proofs.copying.+copied_refutation.Goals as goal

pub copied_refutation-requires : goal.copied_refutation-requires
copied_refutation-requires t c =
    let child = c.child-item.result in
    let children = c.in-Split.children in
    let k = c.loop-child.child-index in
    let less : k < length children = omega (arith, c.loop-child-test.true, ap length c.as_slice-child-items.ensures) in
    let is : child ≡ get_or children k child = c.child-item.is ∙ ap (λ (l : List Refutation). get_or l k child) c.as_slice-child-items.ensures in
    omega (arith, child_smaller c.in-Split.pair children k child child less is, ap node_count_of c.in-Split.is)
