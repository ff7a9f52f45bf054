use Rattle.std.proofs.Common.{refl, arith}
use Rattle.bp_metric.proofs.Chains.{places_at}
use Rattle.bp_steady.proofs.Pulling.{pulled_above, pulled_risen}
use Rattle.bp_steady.proofs.rising.pull.Goals as goal

pub returns-then-high-asked : goal.returns-then-high-asked
returns-then-high-asked c =
    pulled_above _ c.leaves-leaves.ensures.metric.tree _ _ c.requires.bounds _ c.told-row c.requires.rising c.args.step c.requires.pair
    (λ ax i j by. places_at c.args._steps.now ax i j c.requires.step.0 c.args.step c.requires.step.1 by)
    c.order_of-order.result c.order_of-order.ensures.order _ refl c.args.row.now (omega (arith, c.high.ensures, c.if-high-asked.true))

pub returns : goal.returns
returns c =
    pulled_risen _ c.leaves-leaves.ensures.metric.tree _ _ c.requires.bounds _ c.told-row c.requires.rising c.args.step c.requires.pair
    (λ ax i j by. places_at c.args._steps.now ax i j c.requires.step.0 c.args.step c.requires.step.1 by)
    c.order_of-order.result c.order_of-order.ensures.order _ refl _ refl c.if-asked-row.false (omega (arith, c.high.ensures, c.if-high-asked.false))
