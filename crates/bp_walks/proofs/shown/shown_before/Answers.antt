use Rattle.std.proofs.Common.{arith}
use Rattle.bp_base.specs.Tree.{leaf_count}
use Rattle.bp_metric.proofs.Lows.{placed_leaves}
use Rattle.bp_walks.proofs.shown.shown_before.Goals as goal

pub loop-before-init : goal.loop-before-init
loop-before-init c = λ a less placed same.
    let l = placed_leaves (leaf_count c.args.metric.now.tree) c.args.path.now c.args.axis a c.args.leaf c.requires.pairs placed in
    absurd (omega arith)

pub returns-clause-none : goal.returns-clause-none
returns-clause-none c = λ a placed same.
    let l = placed_leaves (leaf_count c.args.metric.now.tree) c.args.path.now c.args.axis a c.args.leaf c.requires.pairs placed in
    c.loop-before.invariant a (omega arith) placed same
