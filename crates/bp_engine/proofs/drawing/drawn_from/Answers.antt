use Rattle.std.proofs.Common.{List, ℕ, IfOk, IfErr, subst}
use Rattle.bp_engine.specs.declared.answering.Answer.{Answer}
use Rattle.bp_engine.specs.declared.status.Status.{Status}
use Rattle.bp_engine.specs.Drawings.{AnswersBytes, IsRefusedAsOpened, Refuses}
use Rattle.bp_engine.proofs.Drawings.{all_answered, all_refused, never_read}
use Rattle.bp_engine.proofs.drawing.drawn_from.Goals as goal

pub returns-in-Ok-clause-answers : goal.returns-in-Ok-clause-answers
returns-in-Ok-clause-answers g c =
    all_answered (λ v. v.status) (λ v. v.text.items) c.args.drawing _ _ c.in-Ok.bytes.items c.in-Ok.ensures.bytes c.bytes_drawn.result
    (subst (λ (b : List ℕ). IfOk c.bytes_drawn.result (λ (a : Answer). AnswersBytes c.args.drawing b a.status a.text.items)) c.deref.ensures.value c.bytes_drawn.ensures.answers)

pub returns-in-Ok-clause-none : goal.returns-in-Ok-clause-none
returns-in-Ok-clause-none g c =
    all_refused (λ v. v.status) (λ v. v.text.items) c.args.drawing _ _ c.in-Ok.bytes.items c.in-Ok.ensures.bytes c.bytes_drawn.result
    (subst (λ (b : List ℕ). IfErr c.bytes_drawn.result (λ (s : Status). Refuses IsRefusedAsOpened b s)) c.deref.ensures.value c.bytes_drawn.ensures.none)

pub returns-in-Ok-clause-failed : goal.returns-in-Ok-clause-failed
returns-in-Ok-clause-failed g c = never_read c.deref.result.now _ c.bytes_drawn.result c.bytes_drawn.ensures.none
