use Rattle.bp_engine.proofs.Verified.{answer_final, answered, failed, no_certificate}
use Rattle.bp_engine.proofs.verifying.verified.Goals as goal

pub returns-in-Ok-answer_of-clause-answers : goal.returns-in-Ok-answer_of-clause-answers
returns-in-Ok-answer_of-clause-answers g c =
    answered c.args.tree.now _ _ c.in-Ok.verified c.in-Ok-answer_of.answer.status c.in-Ok-answer_of.answer.text.items c.in-Ok.ensures.verifies c.in-Ok-answer_of.ensures

pub returns-in-Ok-answer_of-clause-ends : goal.returns-in-Ok-answer_of-clause-ends
returns-in-Ok-answer_of-clause-ends g c =
    answer_final c.in-Ok.verified.side c.in-Ok.verified.bound c.in-Ok.verified.verdict c.in-Ok-answer_of.answer.status c.in-Ok-answer_of.answer.text.items c.in-Ok-answer_of.ensures

pub returns-in-Err-clause-none : goal.returns-in-Err-clause-none
returns-in-Err-clause-none g c = no_certificate c.args.tree.now _ _ c.in-Err.fault c.status_of.result c.status_of.ensures c.in-Err.ensures.verifies

pub returns-in-Err-clause-failed : goal.returns-in-Err-clause-failed
returns-in-Err-clause-failed g c = λ is. c.in-Err.ensures.read (failed c.in-Err.fault c.status_of.result c.status_of.ensures is)
