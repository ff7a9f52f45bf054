use Rattle.std.proofs.Common.{Err, arith, subst}
use Rattle.bp_document.specs.declared.fault.ReadDoc.{ReadDoc}
use Rattle.bp_verify.specs.Intake.{EndsIntake}
use Rattle.bp_verify.proofs.Ending.{fault_at_end, fault_in}
use Rattle.bp_verify.proofs.intake.Intake.finish.Goals as goal

pub returns-in-Some-clause-answers : goal.returns-in-Some-clause-answers
returns-in-Some-clause-answers c = λ T bytes count passed.
    fault_in T c.args.self.now bytes c.in-Some.fault (c.law_of_one_certificate.ensures bytes) (omega (arith, count, c.if-count-gt-MOST_DOCUMENT_BYTES.false)) c.in-Some.is passed

pub returns-in_ok-fault-in-Err-clause-answers : goal.returns-in_ok-fault-in-Err-clause-answers
returns-in_ok-fault-in-Err-clause-answers c = λ T bytes count passed.
    fault_at_end T c.args.self.now c.end.new.self bytes c.in_ok-fault-in-Err.fault (c.law_of_one_certificate.ensures bytes) (omega (arith, count, c.if-count-gt-MOST_DOCUMENT_BYTES.false))
    (subst (λ (e : ReadDoc). EndsIntake c.args.self.now c.end.new.self (Err e)) c.in_ok-fault-in-Err.ensures c.in-Err.ensures) passed

pub answer-requires : goal.answer-requires
answer-requires c = let a = c.requires.underway in record { whole = (a.0, a.1, c.in-Ok.ensures a.0 a.1 a.2) }
