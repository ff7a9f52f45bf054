use Rattle.std.proofs.Common.{◌<◌, refl, length, length-set, arith}
use Rattle.bp_steady.proofs.Placed.{zero_small, row_more, row_small}
use Rattle.bp_steady.proofs.searching.lows.Goals as goal

pub loop-at-init : goal.loop-at-init
loop-at-init c = record { each = refl; so_far = λ k less. absurd (omega (arith, less)); small = zero_small }

pub loop-at-preserved : goal.loop-at-preserved
loop-at-preserved c =
    let within : c.loop-at.at < length c.loop-at.row = omega (arith, c.loop-at.invariant.each, c.loop-at-test.true, c.leaves.ensures.count, c.leaves.ensures.metric.tree.leaves_few) in
    record {
      each = omega (arith, length-set c.loop-at.row c.loop-at.at c.low.result, c.loop-at.invariant.each);
      so_far = row_more c.loop-at.row c.args.bounds.now.low c.loop-at.at c.low.result within c.loop-at.invariant.so_far c.low.ensures;
      small = row_small c.loop-at.row c.args.bounds.now.low c.loop-at.at c.low.result within c.loop-at.invariant.small (omega (arith, c.low.ensures, c.requires.rise c.loop-at.at, c.requires.small c.loop-at.at));
    }
