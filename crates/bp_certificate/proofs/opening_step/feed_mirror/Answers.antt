use Rattle.std.proofs.Common.{sym, subst, ◌∙◌}
use Rattle.std.specs.Cmp.Lexicographic.{same_text}
use Rattle.std.proofs.lemmas.Bool.{false≢true}
use Rattle.std.proofs.lemmas.Slice.Eq.{bytes_eq-Decides}
use Rattle.bp_certificate.specs.declared.stage.Stage.{Stage}
use Rattle.bp_certificate.specs.Stages.{Steps}
use Rattle.bp_certificate.proofs.OpeningSteps.{mirror_fed, mirror_refused}
use Rattle.bp_certificate.proofs.opening_step.feed_mirror.Goals as goal

pub returns-then-eq : goal.returns-then-eq
returns-then-eq c =
    subst (Steps (Stage.Mirror c.args.sheet c.args.memory) c.args.bytes.now) (sym c.on.ensures)
    (mirror_fed c.args.bytes.now c.args.memory c.args.sheet (same_text c.args.bytes.now c.as_slice.result.now (sym c.if-eq.true ∙ c.eq.ensures) ∙ c.as_slice.ensures))

pub returns-else-eq : goal.returns-else-eq
returns-else-eq c =
    mirror_refused c.args.bytes.now c.args.memory c.args.sheet
    (λ same. false≢true (sym c.if-eq.false ∙ c.eq.ensures ∙ (bytes_eq-Decides c.args.bytes.now c.as_slice.result.now).1 (same ∙ sym c.as_slice.ensures)))
