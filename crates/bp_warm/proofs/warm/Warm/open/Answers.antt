use Rattle.std.proofs.Common.{◌≡◌, ◌-◌, ◌*◌, ◌/◌, [], ℕ, refl, sym, ◌∙◌, ap, arith}
use Rattle.bp_base.specs.Tree.{leaf_count}
use Rattle.bp_warm.specs.Warm.{pair_count}
use Rattle.bp_warm.proofs.Keeping.{frame_as, warm_start, warm_as}
use Rattle.bp_warm.proofs.warm.Warm.open.Goals as goal

pub invariant_of-result : goal.invariant_of-result
invariant_of-result c =
    let count : c.leaves-n.result ≡ leaf_count c.args.metric.now.tree = c.leaves-n.ensures.count in
    let pairs : c.leaves-n.result * (c.leaves-n.result - 1) / 2 ≡ pair_count c.args.metric.now.tree = ap (λ (n : ℕ). n * (n - 1) / 2) count in
    let filled = frame_as c.args.metric.now.tree c.args.metric.now.tree c.args.metric.now.sheet c.args.metric.now.sheet c.deref.result.now [] c.fill.new.frame refl refl (c.deref.ensures.value ∙ c.in_ok-steps.ensures.items) c.fill.ensures.frame in
    warm_as c.args.metric.now.tree c.in_ok-tree.tree c.args.metric.now.sheet c.sheet-sheet.result c.in_ok-steps.steps.items _ c.in_ok-x.x.row.items c.in_ok-y.y.row.items c.in_ok-x.x.after c.in_ok-x.x.before c.in_ok-y.y.after c.in_ok-y.y.before _ (sym (c.in_ok-tree.ensures.value ∙ c.tree.ensures.tree)) (sym c.sheet-sheet.ensures.sheet)
    (warm_start c.args.metric.now.tree c.args.metric.now.sheet _ c.in_ok-steps.steps.items c.in_ok-x.x.row.items c.in_ok-y.y.row.items c.in_ok-x.x.after c.in_ok-x.x.before c.in_ok-y.y.after c.in_ok-y.y.before c.in_ok-frames.frames.items c.fill.new.frame c.leaves-n.ensures.metric.tree c.leaves-n.ensures.metric.sheet c.in_ok-steps.ensures.items (omega (arith, pairs, c.in_ok-steps.ensures.exact)) c.in_ok-x.ensures.x c.in_ok-y.ensures.y (omega (arith, pairs, c.in_ok-frames.ensures.each)) (λ k d less. record { xs = (c.in_ok-frames.ensures.long k d less).0 ∙ count; ys = (c.in_ok-frames.ensures.long k d less).1 ∙ count }) filled (c.fill.ensures.xs ∙ c.deref-2.ensures.value) (c.fill.ensures.ys ∙ c.deref-3.ensures.value))
