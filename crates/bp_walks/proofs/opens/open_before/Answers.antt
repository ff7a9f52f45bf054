use Rattle.std.proofs.Common.{◌≡◌, get_or}
use Rattle.bp_metric.proofs.Chains.{places_at}
use Rattle.bp_walks.proofs.Steps.{each_more}
use Rattle.bp_walks.proofs.opens.open_before.Goals as goal

pub returns-in-Some : goal.returns-in-Some
returns-in-Some c =
    (places_at c.args.path.now c.args.axis c.in-Some.p c.args.leaf c.loop-k.k _ c.at.ensures.step c.in-Some.ensures.0, c.in-Some.ensures.1)

pub loop-k-preserved : goal.loop-k-preserved
loop-k-preserved c =
    each_more c.args.path.now c.args.axis c.args.leaf c.loop-k.k (λ p. get_or c.args.open.now p 0 ≡ 0) _ c.at.ensures.step c.loop-k.invariant c.in-None.ensures
