use Rattle.std.proofs.Common.{◌≤◌, refl, ◌∙◌, arith}
use Rattle.bp_base.specs.Tree.{leaf_count}
use Rattle.bp_walks.proofs.Trails.{shown_leaf, shown_more, shown_whole, kept_chain}
use Rattle.bp_warm.specs.Raising.{low_in}
use Rattle.bp_warm.proofs.Linked.{row_before}
use Rattle.bp_warm.proofs.Pulling.{exact_lows}
use Rattle.bp_warm.proofs.showing.shown_chain.Goals as goal

pub row-requires : goal.row-requires
row-requires c =
    let leaf = shown_leaf c.args.metric.now.tree c.leaves-leaves.ensures.metric.tree c.args._steps.now c.requires.pairs c.args._axis (low_in c.args.row.now) (exact_lows c.args.metric.now.tree c.args._steps.now c.args._axis c.args.row.now c.requires.exact) c.loop-shown.trail c.loop-shown.at c.args.last c.loop-shown.invariant in
    omega (arith, leaf.1, c.leaves-leaves.ensures.metric.tree.leaves_few)

pub shown_before-requires-clause-befores : goal.shown_before-requires-clause-befores
shown_before-requires-clause-befores c =
    let leaf = shown_leaf c.args.metric.now.tree c.leaves-leaves.ensures.metric.tree c.args._steps.now c.requires.pairs c.args._axis (low_in c.args.row.now) (exact_lows c.args.metric.now.tree c.args._steps.now c.args._axis c.args.row.now c.requires.exact) c.loop-shown.trail c.loop-shown.at c.args.last c.loop-shown.invariant in
    row_before c.args._steps.now c.args._axis _ c.row.result.now (c.row.ensures.value ∙ c.requires.links.row _ (omega (arith, leaf.1, c.leaves-leaves.ensures.metric.tree.leaves_few)))

pub shown_before-requires-clause-leaf : goal.shown_before-requires-clause-leaf
shown_before-requires-clause-leaf c =
    shown_leaf c.args.metric.now.tree c.leaves-leaves.ensures.metric.tree c.args._steps.now c.requires.pairs c.args._axis (low_in c.args.row.now) (exact_lows c.args.metric.now.tree c.args._steps.now c.args._axis c.args.row.now c.requires.exact) c.loop-shown.trail c.loop-shown.at c.args.last c.loop-shown.invariant

pub overflow_sub-at : goal.overflow_sub-at
overflow_sub-at c =
    (shown_more c.args.metric.now.tree c.leaves-leaves.ensures.metric.tree c.args._steps.now c.requires.pairs c.args._axis (low_in c.args.row.now) (exact_lows c.args.metric.now.tree c.args._steps.now c.args._axis c.args.row.now c.requires.exact) c.loop-shown.trail c.loop-shown.at c.args.last c.in-Some.shown c.loop-shown.invariant c.in-Some.ensures.some.0 c.in-Some.ensures.some.1 c.in-Some.ensures.least).0

pub loop-shown-smaller : goal.loop-shown-smaller
loop-shown-smaller c =
    let room : 1 ≤ c.loop-shown.at = (shown_more c.args.metric.now.tree c.leaves-leaves.ensures.metric.tree c.args._steps.now c.requires.pairs c.args._axis (low_in c.args.row.now) (exact_lows c.args.metric.now.tree c.args._steps.now c.args._axis c.args.row.now c.requires.exact) c.loop-shown.trail c.loop-shown.at c.args.last c.in-Some.shown c.loop-shown.invariant c.in-Some.ensures.some.0 c.in-Some.ensures.some.1 c.in-Some.ensures.least).0 in
    omega arith

pub loop-shown-preserved : goal.loop-shown-preserved
loop-shown-preserved c =
    (shown_more c.args.metric.now.tree c.leaves-leaves.ensures.metric.tree c.args._steps.now c.requires.pairs c.args._axis (low_in c.args.row.now) (exact_lows c.args.metric.now.tree c.args._steps.now c.args._axis c.args.row.now c.requires.exact) c.loop-shown.trail c.loop-shown.at c.args.last c.in-Some.shown c.loop-shown.invariant c.in-Some.ensures.some.0 c.in-Some.ensures.some.1 c.in-Some.ensures.least).1

pub unreachable-requires : goal.unreachable-requires
unreachable-requires c =
    let shows = shown_whole c.args.metric.now.tree c.leaves-leaves.ensures.metric.tree c.args._steps.now c.requires.pairs c.args._axis (low_in c.args.row.now) (exact_lows c.args.metric.now.tree c.args._steps.now c.args._axis c.args.row.now c.requires.exact) c.loop-shown.trail c.loop-shown.at c.args.last _ c.loop-shown.invariant refl c.in_default.ensures.none in
    c.in-None.ensures (kept_chain (leaf_count c.args.metric.now.tree) c.args._steps.now c.args._axis _ (omega (arith, c.leaves-leaves.ensures.metric.tree.leaves_few)) shows.chain)

pub returns : goal.returns
returns c =
    shown_whole c.args.metric.now.tree c.leaves-leaves.ensures.metric.tree c.args._steps.now c.requires.pairs c.args._axis (low_in c.args.row.now) (exact_lows c.args.metric.now.tree c.args._steps.now c.args._axis c.args.row.now c.requires.exact) c.loop-shown.trail c.loop-shown.at c.args.last _ c.loop-shown.invariant c.in-Some-new.ensures.1 c.in_default.ensures.none
