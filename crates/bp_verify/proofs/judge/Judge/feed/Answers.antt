use Rattle.bp_verify.proofs.Judged.{stays_judged}
use Rattle.bp_verify.proofs.judge.Judge.feed.Goals as goal

pub returns-in_default : goal.returns-in_default
returns-in_default c = λ T H ls judged. stays_judged T H ls c.args.lemma.now c.args.self (λ r count is. c.in_default.not-Standing r count is) judged
