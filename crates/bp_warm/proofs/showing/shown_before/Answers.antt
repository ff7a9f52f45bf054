use Rattle.std.proofs.Common.{get_or}
use Rattle.bp_base.specs.Tree.{leaf_count}
use Rattle.bp_metric.proofs.Lows.{placed_leaves}
use Rattle.bp_warm.proofs.showing.shown_before.Goals as goal

pub better-best-requires-clause-before : goal.better-best-requires-clause-before
better-best-requires-clause-before c =
    let l = placed_leaves (leaf_count c.args.metric.now.tree) c.args._steps.now c.args._axis (get_or c.args.befores.now c.loop-k.k 0) c.args.leaf c.requires.pairs (c.requires.befores.places c.loop-k.k c.loop-k-test.true) in
    (l.0, l.1)
