use Rattle.std.proofs.Common.{◌≡◌, ◌<◌, ◌∙◌, ap, refl, arith, List, length, get_or}
use Rattle.bp_base.specs.declared.refutation.Refutation.{Refutation}
use Rattle.bp_base.specs.declared.refutation.Refutation.TheVariants.{Split, Open}
use Rattle.bp_metric.specs.Choices.{allowed}
use Rattle.bp_metric.specs.Nodes.{node_count_of}
use Rattle.bp_document.proofs.Nodes.{child_smaller}
use Rattle.bp_revise.proofs.Keeps.{child_shape, keep_all, keep_more, kept_pair, not_kept, open_kept, shape_leaves}
use Rattle.bp_revise.proofs.keeping.+kept.Goals as goal

pub allowed-requires : goal.allowed-requires
allowed-requires t c = kept_pair c.args.metric.now.tree c.args.metric.now.sheet c.in-Split.pair c.in-Split.children c.args.refutation.now c.in-Split.is c.requires

pub returns-then-len-count : goal.returns-then-len-count
returns-then-len-count t c =
    let T = c.args.metric.now.tree in
    let G = c.args.metric.now.sheet in
    c.open_leaf.ensures
    ∙ not_kept T G c.args.start c.in-Split.pair c.in-Split.children c.in-Split.children c.args.refutation.now c.in-Split.is refl
    (λ same. c.if-len-count.true (omega (arith, same, c.len.ensures, c.count.ensures, ap length c.allowed.ensures)))

pub kept-requires : goal.kept-requires
kept-requires t c =
    let child = c.child-item.result in
    let children = c.in-Split.children in
    let k = c.loop-child.child-index in
    let less : k < length children = omega (arith, c.loop-child-test.true, ap length c.as_slice-child-items.ensures) in
    let is : child ≡ get_or children k child = c.child-item.is ∙ ap (λ (l : List Refutation). get_or l k child) c.as_slice-child-items.ensures in (
      omega (arith, child_smaller c.in-Split.pair children k child child less is, ap node_count_of c.in-Split.is),
      child_shape c.args.metric.now.tree c.args.metric.now.sheet c.in-Split.pair children children c.args.refutation.now k child c.in-Split.is (λ i. children) c.requires less is,
    )

pub loop-child-preserved : goal.loop-child-preserved
loop-child-preserved t c =
    keep_more c.args.metric.now.tree c.args.metric.now.sheet c.args.start c.as_slice-child-items.result.now c.loop-child.kept_children.items c.push.new.self.items c.loop-child.child-index c.child-item.result c.in_ok-one-in-Split.one c.loop-child-test.true c.child-item.is c.in_ok-one-in-Split.ensures c.loop-child.invariant c.in_ok-push-in-Split.ensures.items

pub returns-after-loop-child : goal.returns-after-loop-child
returns-after-loop-child t c =
    let T = c.args.metric.now.tree in
    let G = c.args.metric.now.sheet in
    let items = c.as_slice-child-items.result.now in
    let many : length items ≡ length (allowed T G c.in-Split.pair) = omega (arith, ap length c.as_slice-child-items.ensures, c.if-len-count.false, c.len.ensures, c.count.ensures, ap length c.allowed.ensures) in
    (λ i. Split c.in-Split.pair (c.from_vec.ensures i))
    ∙ keep_all T G c.args.start c.in-Split.pair c.in-Split.children items c.loop-child.kept_children.items c.args.refutation.now c.loop-child.child-index c.in-Split.is c.as_slice-child-items.ensures c.loop-child-test.false many c.loop-child.invariant

pub kept_leaf-requires : goal.kept_leaf-requires
kept_leaf-requires t c = shape_leaves c.args.metric.now.tree c.args.metric.now.sheet c.in-Closed.claim c.args.refutation.now c.in-Closed.is c.requires

pub returns-in-Open : goal.returns-in-Open
returns-in-Open t c = (λ i. Open (c.copy.ensures i)) ∙ open_kept c.args.metric.now.tree c.args.metric.now.sheet c.args.start c.in-Open.claim c.args.refutation.now c.in-Open.is
