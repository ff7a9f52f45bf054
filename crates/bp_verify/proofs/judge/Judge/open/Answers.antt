use Rattle.bp_verify.proofs.Judged.{begins, can_swap, no_lemmas, refused}
use Rattle.std.proofs.Common.{refl}
use Rattle.bp_verify.proofs.judge.Judge.open.Goals as goal

pub returns-in-Some : goal.returns-in-Some
returns-in-Some c = refused c.args.metric.now.tree c.args.head.now c.in-Some.reason (λ C has. c.in-Some.ensures C has)

pub begin-requires-clause-swaps : goal.begin-requires-clause-swaps
begin-requires-clause-swaps c = can_swap c.args.metric.now.tree c.args.head.now c.in-Some-plan.plan c.in-Some-plan.is (λ C has. c.in_default.ensures C has)

pub returns-in-None : goal.returns-in-None
returns-in-None c = no_lemmas c.args.metric.now.tree c.args.head.now c.in-None.is (λ C has. c.in_default.ensures C has)

pub returns-in_ok-replay-in-Some-plan : goal.returns-in_ok-replay-in-Some-plan
returns-in_ok-replay-in-Some-plan c =
    begins c.args.metric.now.tree c.args.head.now c.args.metric.now c.in-Some-plan.plan c.in_ok-replay-in-Some-plan.replay refl c.requires.sheet c.in-Some-plan.is (λ C has. c.in_default.ensures C has) c.in_ok-replay-in-Some-plan.ensures
