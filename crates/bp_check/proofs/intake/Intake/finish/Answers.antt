use Rattle.std.proofs.Common.{arith}
use Rattle.bp_check.proofs.Ending.{fault_in, fault_at_end}
use Rattle.bp_check.proofs.intake.Intake.finish.Goals as goal

pub returns-in-Some : goal.returns-in-Some
returns-in-Some c = λ T bytes count passed.
    fault_in T c.args.self.now bytes c.in-Some.fault (c.law_of_one_answer.ensures bytes) (omega (arith, count, c.if-count-gt-MOST_DOCUMENT_BYTES.false)) c.in-Some.is passed

pub returns-in-Err : goal.returns-in-Err
returns-in-Err c = λ T bytes count passed.
    fault_at_end T c.args.self.now c.end.new.self bytes c.in-Err.fault (c.law_of_one_answer.ensures bytes) (omega (arith, count, c.if-count-gt-MOST_DOCUMENT_BYTES.false)) c.in-Err.ensures passed

pub answer-requires : goal.answer-requires
answer-requires c = let a = c.requires.underway in record { whole = (a.0, a.1, c.in-Ok.ensures a.0 a.1 a.2) }
