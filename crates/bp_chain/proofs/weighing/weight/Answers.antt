use Rattle.std.proofs.Common.{arith}
use Rattle.bp_chain.proofs.Lists.{weight_step, weight_end}
use Rattle.bp_chain.proofs.weighing.weight.Goals as goal

pub loop-k-preserved : goal.loop-k-preserved
loop-k-preserved c = (
  weight_step c.args.metric.now.tree c.args.chain.now c.loop-k.k _ _ _ c.loop-k.sum _ (omega arith) c.at.ensures c.at-in-loop-k.ensures c.dist-sum.ensures.value c.loop-k.invariant.0,
  omega (arith, c.dist-sum.ensures.small, c.loop-k.invariant.1),
)

pub returns : goal.returns
returns c = weight_end c.args.metric.now.tree c.args.chain.now c.loop-k.k c.loop-k.sum _ (omega arith) c.loop-k.invariant.0
