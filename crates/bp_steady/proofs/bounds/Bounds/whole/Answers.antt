use Rattle.std.proofs.Common.{◌≡◌, ℕ, List, ◌++◌, ◌∷◌, [], append_assoc, sym, ◌∙◌, ap, arith}
use Rattle.bp_base.specs.declared.point.Axis.TheVariants.{X, Y}
use Rattle.bp_base.specs.declared.point.Sheet.{Sheet}
use Rattle.bp_base.specs.Tree.{leaf_count}
use Rattle.bp_steady.specs.Questions.{end_of, ends}
use Rattle.bp_steady.proofs.Summed.{ends_more, end_y}
use Rattle.bp_steady.proofs.bounds.Bounds.whole.Goals as goal

pub loop-preserved : goal.loop-preserved
loop-preserved c =
    let width : c.width_of-width.result ≡ end_of c.args.metric.now.sheet c.args.side X =
    c.width_of-width.ensures ∙ ap (λ (g : Sheet). end_of g c.args.side X) c.sheet.ensures.sheet in
    let height : c.args.side ≡ end_of c.args.metric.now.sheet c.args.side Y = sym (end_y c.args.metric.now.sheet c.args.side) in
    c.in_ok-push-2.ensures.items
    ∙ ap (λ (l : List ℕ). l ++ c.args.side ∷ []) c.in_ok-push.ensures.items
    ∙ append_assoc c.loop.high.items (c.width_of-width.result ∷ []) (c.args.side ∷ [])
    ∙ (λ i. c.loop.invariant i ++ width i ∷ height i ∷ [])
    ∙ ends_more c.args.metric.now.sheet c.args.side c.loop.counter

pub returns-clause-high : goal.returns-clause-high
returns-clause-high c =
    let all : c.loop.counter ≡ leaf_count c.args.metric.now.tree = omega (arith, c.loop-test.false, c.loop.auto.counter-end, c.leaves-n.ensures.count) in
    c.loop.invariant ∙ ap (λ (m : ℕ). ends c.args.metric.now.sheet c.args.side m) all
