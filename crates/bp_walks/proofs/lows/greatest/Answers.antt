use Rattle.std.proofs.Common.{arith, inl, inr}
use Rattle.bp_walks.proofs.Steps.{greatest_more}
use Rattle.bp_walks.proofs.lows.greatest.Goals as goal
use Rattle.bp_walks.proofs.lows.greatest.Goals.{then-most-asked, else-most-asked}

pub loop-k-preserved : goal.loop-k-preserved
loop-k-preserved c = elim c.if-most-asked.branch [
  | then-most-asked w ↦
      greatest_more c.args.metric.now.tree c.args.path.now c.args.axis c.args.leaf c.loop-k.k c.args.lows.now _ c.loop-k.most c.asked_by-asked.result c.if-most-asked.most c.at.ensures.step c.loop-k.invariant.0 c.loop-k.invariant.1 c.asked_by-asked.ensures.meets c.asked_by-asked.ensures.made_up (omega arith) (omega arith) (inr w.most-is)
  | else-most-asked w ↦
      greatest_more c.args.metric.now.tree c.args.path.now c.args.axis c.args.leaf c.loop-k.k c.args.lows.now _ c.loop-k.most c.asked_by-asked.result c.if-most-asked.most c.at.ensures.step c.loop-k.invariant.0 c.loop-k.invariant.1 c.asked_by-asked.ensures.meets c.asked_by-asked.ensures.made_up (omega arith) (omega arith) (inl w.most-is)
]
