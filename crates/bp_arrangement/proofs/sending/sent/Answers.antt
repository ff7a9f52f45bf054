use Rattle.std.proofs.Common.{arith}
use Rattle.bp_arrangement.proofs.Deciding.{goes_i, goes_j, goes_on, goes_nowhere}
use Rattle.bp_arrangement.proofs.sending.sent.Goals as goal

pub returns-then-leaf-pair : goal.returns-then-leaf-pair
returns-then-leaf-pair c =
    goes_i c.args.swap.now c.args.leaf c.loop-pair.pair-index c.loop-pair.invariant c.loop-pair-test.true c.if-leaf-pair.true

pub returns-then-leaf-pair-2 : goal.returns-then-leaf-pair-2
returns-then-leaf-pair-2 c =
    goes_j c.args.swap.now c.args.leaf c.loop-pair.pair-index c.loop-pair.invariant c.loop-pair-test.true c.if-leaf-pair.false c.if-leaf-pair-2.true

pub loop-pair-preserved : goal.loop-pair-preserved
loop-pair-preserved c =
    goes_on c.args.swap.now c.args.leaf c.loop-pair.pair-index c.loop-pair.invariant c.loop-pair-test.true c.if-leaf-pair.false c.if-leaf-pair-2.false

pub returns : goal.returns
returns c =
    goes_nowhere c.args.swap.now c.args.leaf c.loop-pair.pair-index c.loop-pair.invariant (omega (arith, c.loop-pair-test.false))
