use Rattle.std.proofs.Common.{◌≡◌, ◌<◌, ◌+◌, ◌++◌, ◌∷◌, [], List, length, sym, ◌∙◌, ap, subst, arith}
use Rattle.bp_base.specs.declared.path.Step.{Step}
use Rattle.bp_base.specs.Tree.{TreeValue, leaf_count}
use Rattle.bp_metric.specs.Metric.{MetricValue}
use Rattle.bp_warm.specs.Warm.{WarmValue}
use Rattle.bp_base.specs.declared.point.Axis.TheVariants.{X, Y}
use Rattle.bp_base.specs.Path.{IsPairOf}
use Rattle.bp_warm.specs.Warm.{pair_count}
use Rattle.bp_warm.specs.Kept.{IsLong}
use Rattle.bp_warm.proofs.Grown.{longer_pairs}
use Rattle.bp_warm.proofs.Keeping.{pairs_as, frame_as, now_x, now_y, long_there, warm_more, half_as}
use Rattle.bp_warm.proofs.warm.Warm.extend.Goals as goal

pub grow_both-cycle-requires-clause-pairs : goal.grow_both-cycle-requires-clause-pairs
grow_both-cycle-requires-clause-pairs c =
    pairs_as c.self.inside.tree c.args.metric.now.tree c.self.inside.steps.items c.deref.result.now (ap (λ (m : MetricValue). m.tree) c.requires.metric ∙ sym (ap (λ (v : WarmValue). v.metric.tree) c.self.view_is)) c.deref.ensures.value c.self.invariant.pairs

pub grow_both-cycle-requires-clause-same_x : goal.grow_both-cycle-requires-clause-same_x
grow_both-cycle-requires-clause-same_x c =
    now_x c.self.inside.tree c.self.inside.sheet c.self.inside.steps.items _ c.self.inside.x.row.items c.self.inside.y.row.items c.self.inside.x.after c.self.inside.x.before c.self.inside.y.after c.self.inside.y.before c.self.inside.frames.items c.self.invariant c.len-now.result c.index.result.now (omega (arith, c.len-now.ensures, c.self.inside.steps.ok.0)) c.index.ensures

pub grow_both-cycle-requires-clause-same_y : goal.grow_both-cycle-requires-clause-same_y
grow_both-cycle-requires-clause-same_y c =
    now_y c.self.inside.tree c.self.inside.sheet c.self.inside.steps.items _ c.self.inside.x.row.items c.self.inside.y.row.items c.self.inside.x.after c.self.inside.x.before c.self.inside.y.after c.self.inside.y.before c.self.inside.frames.items c.self.invariant c.len-now.result c.index.result.now (omega (arith, c.len-now.ensures, c.self.inside.steps.ok.0)) c.index.ensures

pub fill-requires-clause-pairs : goal.fill-requires-clause-pairs
fill-requires-clause-pairs c =
    pairs_as c.self.inside.tree c.args.metric.now.tree (c.self.inside.steps.items ++ c.args.step ∷ []) c.deref-in-None.result.now (ap (λ (m : MetricValue). m.tree) c.requires.metric ∙ sym (ap (λ (v : WarmValue). v.metric.tree) c.self.view_is)) (c.deref-in-None.ensures.value ∙ c.in-Ok.ensures.items) (longer_pairs (leaf_count c.self.inside.tree) c.self.inside.steps.items c.args.step c.self.invariant.pairs (subst (λ (v : WarmValue). IsPairOf (leaf_count v.metric.tree) c.args.step.pair) (sym c.self.view_is) c.requires.pair))

pub fill-requires-clause-long : goal.fill-requires-clause-long
fill-requires-clause-long c =
    let less : length c.self.inside.steps.items < pair_count c.self.inside.tree = (subst (λ (v : WarmValue). length v.path < pair_count v.metric.tree) (sym c.self.view_is) c.requires.room) in
    let now : c.len-now.result ≡ length c.self.inside.steps.items = (omega (arith, c.len-now.ensures, c.self.inside.steps.ok.0)) in
    subst (λ (T : TreeValue). IsLong T c.index_mut.result.now) (sym (ap (λ (m : MetricValue). m.tree) c.requires.metric ∙ sym (ap (λ (v : WarmValue). v.metric.tree) c.self.view_is))) (long_there c.self.inside.tree c.self.inside.sheet c.self.inside.steps.items _ c.self.inside.x.row.items c.self.inside.y.row.items c.self.inside.x.after c.self.inside.x.before c.self.inside.y.after c.self.inside.y.before c.self.inside.frames.items c.self.invariant (c.len-now.result + 1) c.index_mut.result.now (omega arith) c.index_mut.ensures.value)

pub invariant_of-self-in-None : goal.invariant_of-self-in-None
invariant_of-self-in-None c =
    let less : length c.self.inside.steps.items < pair_count c.self.inside.tree = (subst (λ (v : WarmValue). length v.path < pair_count v.metric.tree) (sym c.self.view_is) c.requires.room) in
    let now : c.len-now.result ≡ length c.self.inside.steps.items = (omega (arith, c.len-now.ensures, c.self.inside.steps.ok.0)) in
    let filled = frame_as c.args.metric.now.tree c.self.inside.tree c.args.metric.now.sheet c.self.inside.sheet c.deref-in-None.result.now (c.self.inside.steps.items ++ c.args.step ∷ []) c.fill.new.frame (ap (λ (m : MetricValue). m.tree) c.requires.metric ∙ sym (ap (λ (v : WarmValue). v.metric.tree) c.self.view_is)) (ap (λ (m : MetricValue). m.sheet) c.requires.metric ∙ sym (ap (λ (v : WarmValue). v.metric.sheet) c.self.view_is)) (c.deref-in-None.ensures.value ∙ c.in-Ok.ensures.items) c.fill.ensures.frame in
    warm_more c.self.inside.tree c.self.inside.sheet c.self.inside.steps.items _ c.self.inside.x.row.items c.self.inside.y.row.items c.self.inside.x.after c.self.inside.x.before c.self.inside.y.after c.self.inside.y.before c.self.inside.frames.items c.self.invariant c.args.step (subst (λ (v : WarmValue). IsPairOf (leaf_count v.metric.tree) c.args.step.pair) (sym c.self.view_is) c.requires.pair) less c.grow_both-cycle.new.x.row.items c.grow_both-cycle.new.y.row.items c.grow_both-cycle.new.x.after c.grow_both-cycle.new.x.before c.grow_both-cycle.new.y.after c.grow_both-cycle.new.y.before (half_as c.args.metric.now.tree c.self.inside.tree (c.deref.result.now ++ c.args.step ∷ []) (c.self.inside.steps.items ++ c.args.step ∷ []) X c.grow_both-cycle.new.x.row.items c.grow_both-cycle.new.x.after c.grow_both-cycle.new.x.before (ap (λ (m : MetricValue). m.tree) c.requires.metric ∙ sym (ap (λ (v : WarmValue). v.metric.tree) c.self.view_is)) (ap (λ (p : List Step). p ++ c.args.step ∷ []) c.deref.ensures.value) c.in-None.ensures.x) (half_as c.args.metric.now.tree c.self.inside.tree (c.deref.result.now ++ c.args.step ∷ []) (c.self.inside.steps.items ++ c.args.step ∷ []) Y c.grow_both-cycle.new.y.row.items c.grow_both-cycle.new.y.after c.grow_both-cycle.new.y.before (ap (λ (m : MetricValue). m.tree) c.requires.metric ∙ sym (ap (λ (v : WarmValue). v.metric.tree) c.self.view_is)) (ap (λ (p : List Step). p ++ c.args.step ∷ []) c.deref.ensures.value) c.in-None.ensures.y) c.fill.new.frame filled (c.fill.ensures.xs ∙ c.deref-in-None-2.ensures.value) (c.fill.ensures.ys ∙ c.deref-in-None-3.ensures.value) _ c.push.new.self.items (c.len-now.result + 1) c.in-Ok.ensures.capacity c.in-Ok.ensures.items (omega arith)
