use Rattle.std.proofs.Common.{refl}
use Rattle.bp_solve.proofs.Stood.{all_fed, none_fed, one_fed}
use Rattle.bp_solve.proofs.replaying.standing.Goals as goal

pub loop-number-init : goal.loop-number-init
loop-number-init c = none_fed _ _ _ c.new-lemmas.ensures c.in_ok-replay.ensures

pub loop-number-preserved : goal.loop-number-preserved
loop-number-preserved c =
    let h = rw c.in-Some.is at c.in_ok-next.ensures in
    one_fed _ c.loop-number.lemmas _ c.in-Some.lemma c.loop-number.replay c.fed.new.replay c.loop-number.invariant h c.in_ok-push.ensures.ok

pub returns : goal.returns
returns c =
    all_fed c.args.metric.now.tree c.args.metric.now.sheet c.args.bound c.args.corner c.args.swaps.now c.loop-number.lemmas c.loop-number.replay c.requires.corner c.requires.swaps c.loop-number.invariant (c.if-not-proved.ensures.exact.0 refl)
