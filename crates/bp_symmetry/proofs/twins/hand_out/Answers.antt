use Rattle.std.proofs.Common.{arith}
use Rattle.bp_symmetry.proofs.HandOut.{read_step, read_end}
use Rattle.bp_symmetry.proofs.twins.hand_out.Goals as goal

pub loop-number-preserved : goal.loop-number-preserved
loop-number-preserved c = record {
  handing = read_step c.args.metric.now.tree c.leaves-count.ensures.metric.tree c.args.points.now c.loop-number.points c.leaves-count.result c.leaves-count.ensures.count c.put_in_order.new.points c.pair_at.result c.loop-number.number c.loop-number.invariant.handing c.pair_at.ensures.pair c.pair_at.ensures.number c.put_in_order.ensures.order;
  small = c.put_in_order.ensures.small;
}

pub returns-clause-handed : goal.returns-clause-handed
returns-clause-handed c =
    read_end c.args.metric.now.tree c.leaves-count.ensures.metric.tree c.args.points.now c.loop-number.points c.leaves-count.result c.leaves-count.ensures.count c.loop-number.number c.loop-number.invariant.handing (omega arith)
