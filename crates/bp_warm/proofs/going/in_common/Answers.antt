use Rattle.std.proofs.Common.{rules, ◌<◌, length, arith}
use Rattle.bp_warm.proofs.Beginnings.{common_more}
use Rattle.bp_warm.proofs.going.in_common.Goals as goal

pub loop-k-preserved : goal.loop-k-preserved
loop-k-preserved c =
    let in_steps : c.loop-k.k < length c.args.steps.now = omega (arith, c.loop-k-test.true, c.min-shorter.ensures) in
    let in_path : c.loop-k.k < length c.args.path.now = omega (arith, c.loop-k-test.true, c.min-shorter.ensures, c.len.ensures.length) in
    record {
      in_steps = omega (arith, in_steps);
      in_path = omega (arith, in_path);
      same = common_more _ _ c.loop-k.k c.at.result c.loop-k.invariant.same in_steps (search rules) c.at.ensures.step;
    }
