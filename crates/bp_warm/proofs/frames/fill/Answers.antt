use Rattle.std.proofs.Common.{sym, subst, inl, inr}
use Rattle.bp_base.specs.declared.point.Axis.TheVariants.{X, Y}
use Rattle.bp_base.specs.declared.point.Sheet.{Sheet}
use Rattle.bp_base.specs.Tree.{leaf_count}
use Rattle.bp_metric.specs.Coordinates.{IsForcedBy}
use Rattle.bp_walks.specs.Lows.{ShowsLeaf}
use Rattle.bp_warm.specs.Raising.{low_in}
use Rattle.bp_warm.proofs.Filled.{top_of, frame_from}
use Rattle.bp_warm.proofs.frames.fill.Goals as goal
use Rattle.bp_warm.proofs.frames.fill.Goals.{in-X, in-Y}

pub returns-clause-frame : goal.returns-clause-frame
returns-clause-frame c =
    frame_from c.args.metric.now.tree c.leaves-leaves.ensures.metric.tree c.args.steps.now c.requires.pairs c.args.metric.now.sheet c.args.xs.now c.args.ys.now c.requires.x c.requires.y c.greatest_leaf-x.result c.greatest_leaf-y.result
    (top_of (leaf_count c.args.metric.now.tree) c.args.xs.now c.greatest_leaf-x.result c.requires.x.each c.greatest_leaf-x.ensures.leaf c.greatest_leaf-x.ensures.greatest c.greatest_leaf-x.ensures.first)
    (top_of (leaf_count c.args.metric.now.tree) c.args.ys.now c.greatest_leaf-y.result c.requires.y.each c.greatest_leaf-y.ensures.leaf c.greatest_leaf-y.ensures.greatest c.greatest_leaf-y.ensures.first)
    c.judge_greatest-judged.result.axis c.judge_greatest-judged.result.forced c.copy_from.new.self c.copy_from-2.new.self c.match-judged.chain
    (subst (λ (G : Sheet). IsForcedBy G (low_in c.args.xs.now c.greatest_leaf-x.result) (low_in c.args.ys.now c.greatest_leaf-y.result) c.judge_greatest-judged.result.axis c.judge_greatest-judged.result.forced) c.sheet.ensures.sheet c.judge_greatest-judged.ensures)
    (elim c.match-judged.branch [
      | in-X w ↦ inl (subst (ShowsLeaf c.args.metric.now.tree c.args.steps.now X c.greatest_leaf-x.result) (sym w.chain-is) w.shown_chain-chain.ensures, w.in-X.is)
      | in-Y w ↦ inr (subst (ShowsLeaf c.args.metric.now.tree c.args.steps.now Y c.greatest_leaf-y.result) (sym w.chain-is) w.shown_chain-chain-in-Y.ensures, w.in-Y.is)
    ])
    c.copy_from.ensures c.copy_from-2.ensures
