use Rattle.std.proofs.Common.{◌≤◌, refl, arith}
use Rattle.bp_walks.proofs.Fine.{low_at, exact_at}
use Rattle.bp_walks.proofs.Trails.{shown_leaf, shown_more, shown_whole, kept_chain}
use Rattle.bp_base.specs.Tree.{leaf_count}
use Rattle.bp_walks.proofs.shown.shown_chain.Goals as goal

pub shown_before-requires-clause-leaf : goal.shown_before-requires-clause-leaf
shown_before-requires-clause-leaf c =
    shown_leaf c.args.metric.now.tree c.leaves-leaves.ensures.metric.tree c.args.path.now c.requires.pairs c.args.axis (low_at c.args.lows.now) (exact_at c.args.metric.now.tree c.args.path.now c.args.axis c.args.lows.now c.requires.lows) c.loop-before.trail c.loop-before.at c.args.last c.loop-before.invariant

pub overflow_sub-at : goal.overflow_sub-at
overflow_sub-at c =
    (shown_more c.args.metric.now.tree c.leaves-leaves.ensures.metric.tree c.args.path.now c.requires.pairs c.args.axis (low_at c.args.lows.now) (exact_at c.args.metric.now.tree c.args.path.now c.args.axis c.args.lows.now c.requires.lows) c.loop-before.trail c.loop-before.at c.args.last c.in-Some.before c.loop-before.invariant c.in-Some.ensures.some.0 c.in-Some.ensures.some.1 c.in-Some.ensures.least).0

pub loop-before-smaller : goal.loop-before-smaller
loop-before-smaller c =
    let room : 1 ≤ c.loop-before.at =
    (shown_more c.args.metric.now.tree c.leaves-leaves.ensures.metric.tree c.args.path.now c.requires.pairs c.args.axis (low_at c.args.lows.now) (exact_at c.args.metric.now.tree c.args.path.now c.args.axis c.args.lows.now c.requires.lows) c.loop-before.trail c.loop-before.at c.args.last c.in-Some.before c.loop-before.invariant c.in-Some.ensures.some.0 c.in-Some.ensures.some.1 c.in-Some.ensures.least).0 in
    omega arith

pub loop-before-preserved : goal.loop-before-preserved
loop-before-preserved c =
    (shown_more c.args.metric.now.tree c.leaves-leaves.ensures.metric.tree c.args.path.now c.requires.pairs c.args.axis (low_at c.args.lows.now) (exact_at c.args.metric.now.tree c.args.path.now c.args.axis c.args.lows.now c.requires.lows) c.loop-before.trail c.loop-before.at c.args.last c.in-Some.before c.loop-before.invariant c.in-Some.ensures.some.0 c.in-Some.ensures.some.1 c.in-Some.ensures.least).1

pub unreachable-requires : goal.unreachable-requires
unreachable-requires c =
    let shows = shown_whole c.args.metric.now.tree c.leaves-leaves.ensures.metric.tree c.args.path.now c.requires.pairs c.args.axis (low_at c.args.lows.now) (exact_at c.args.metric.now.tree c.args.path.now c.args.axis c.args.lows.now c.requires.lows) c.loop-before.trail c.loop-before.at c.args.last _ c.loop-before.invariant refl c.in_default.ensures.none in
    c.in-None.ensures (kept_chain (leaf_count c.args.metric.now.tree) c.args.path.now c.args.axis _ (omega (arith, c.leaves-leaves.ensures.metric.tree.leaves_few)) shows.chain)

pub returns : goal.returns
returns c =
    shown_whole c.args.metric.now.tree c.leaves-leaves.ensures.metric.tree c.args.path.now c.requires.pairs c.args.axis (low_at c.args.lows.now) (exact_at c.args.metric.now.tree c.args.path.now c.args.axis c.args.lows.now c.requires.lows) c.loop-before.trail c.loop-before.at c.args.last _ c.loop-before.invariant c.in-Some-new.ensures.1 c.in_default.ensures.none
