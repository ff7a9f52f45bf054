use Rattle.std.proofs.Common.{◌≤◌, ◌-◌, ℕ, set, replicate, refl, sym, subst, arith}
use Rattle.bp_base.specs.Tree.{leaf_count}
use Rattle.bp_warm.proofs.Backs.{IsBack, back_start, back_leaf, back_more, back_list, back_loop}
use Rattle.bp_warm.proofs.back.loop_back.Goals as goal

pub loop-trail-init : goal.loop-trail-init
loop-trail-init c =
    back_start c.args.metric.now.tree c.leaves-leaves.ensures.metric.tree c.args._steps.now c.requires.pairs c.args._axis c.args._old.now c.requires.exact c.args.first c.args.second c.args._lows.now c.args.work.now c.requires.working (replicate 33 0) c.args.last refl c.requires.first c.requires.moved c.requires.placed

pub by-by-requires : goal.by-by-requires
by-by-requires c =
    let leaf = back_leaf c.args.metric.now.tree c.leaves-leaves.ensures.metric.tree c.args._steps.now c.requires.pairs c.args._axis c.args._old.now c.requires.exact c.args.first c.args.second c.args._lows.now c.args.work.now c.requires.working c.loop-trail.trail c.loop-trail.at c.loop-trail.invariant in
    omega (arith, leaf.1, c.leaves-leaves.ensures.metric.tree.leaves_few)

pub overflow_sub-at : goal.overflow_sub-at
overflow_sub-at c =
    (back_more c.args.metric.now.tree c.leaves-leaves.ensures.metric.tree c.args._steps.now c.requires.pairs c.args._axis c.args._old.now c.requires.exact c.args.first c.args.second c.args._lows.now c.args.work.now c.requires.working c.loop-trail.trail c.loop-trail.at c.loop-trail.invariant c.loop-trail-test.true).0

pub loop-trail-smaller : goal.loop-trail-smaller
loop-trail-smaller c =
    let room : 1 ≤ c.loop-trail.at = (back_more c.args.metric.now.tree c.leaves-leaves.ensures.metric.tree c.args._steps.now c.requires.pairs c.args._axis c.args._old.now c.requires.exact c.args.first c.args.second c.args._lows.now c.args.work.now c.requires.working c.loop-trail.trail c.loop-trail.at c.loop-trail.invariant c.loop-trail-test.true).0 in
    omega arith

pub loop-trail-preserved : goal.loop-trail-preserved
loop-trail-preserved c =
    subst (λ (p : ℕ). IsBack (leaf_count c.args.metric.now.tree) c.args._steps.now c.args._axis c.args.first c.args.work.now (set c.loop-trail.trail (c.loop-trail.at - 1) p) (c.loop-trail.at - 1)) (sym c.by-by.ensures) (back_more c.args.metric.now.tree c.leaves-leaves.ensures.metric.tree c.args._steps.now c.requires.pairs c.args._axis c.args._old.now c.requires.exact c.args.first c.args.second c.args._lows.now c.args.work.now c.requires.working c.loop-trail.trail c.loop-trail.at c.loop-trail.invariant c.loop-trail-test.true).1

pub begun_at_least-requires : goal.begun_at_least-requires
begun_at_least-requires c =
    back_list c.args.metric.now.tree c.leaves-leaves.ensures.metric.tree c.args._steps.now c.requires.pairs c.args._axis c.args._old.now c.requires.exact c.args.first c.args.second c.args._lows.now c.args.work.now c.requires.working c.loop-trail.trail c.loop-trail.at c.loop-trail.invariant

pub returns : goal.returns
returns c =
    let k = c.begun_at_least.ensures in
    back_loop c.args.metric.now.tree c.leaves-leaves.ensures.metric.tree c.args._steps.now c.requires.pairs c.args._axis c.args._old.now c.requires.exact c.args.first c.args.second c.args._lows.now c.args.work.now c.requires.working c.loop-trail.trail c.loop-trail.at c.loop-trail.invariant c.args._step c.begun_at_least.result k.0 c.loop-trail-test.false c.requires.differ c.requires.step k.1 k.2 k.3
