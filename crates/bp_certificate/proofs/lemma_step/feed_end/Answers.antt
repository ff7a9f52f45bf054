use Rattle.std.proofs.Common.{sym, subst, ◌∙◌}
use Rattle.std.specs.Cmp.Lexicographic.{same_text}
use Rattle.std.proofs.lemmas.Bool.{false≢true}
use Rattle.std.proofs.lemmas.Slice.Eq.{bytes_eq-Decides}
use Rattle.bp_certificate.specs.declared.stage.Stage.{Stage}
use Rattle.bp_certificate.specs.Stages.{Steps}
use Rattle.bp_certificate.proofs.LemmaSteps.{end_fed, end_refused}
use Rattle.bp_certificate.proofs.lemma_step.feed_end.Goals as goal

pub returns-then-eq : goal.returns-then-eq
returns-then-eq c =
    subst (Steps (Stage.End c.args.head) c.args.bytes.now) (sym c.on.ensures)
    (end_fed c.args.bytes.now c.args.head (same_text c.args.bytes.now c.as_slice.result.now (sym c.if-eq.true ∙ c.eq.ensures) ∙ c.as_slice.ensures))

pub returns-else-eq : goal.returns-else-eq
returns-else-eq c =
    end_refused c.args.bytes.now c.args.head
    (λ same. false≢true (sym c.if-eq.false ∙ c.eq.ensures ∙ (bytes_eq-Decides c.args.bytes.now c.as_slice.result.now).1 (same ∙ sym c.as_slice.ensures)))
