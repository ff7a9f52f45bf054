use Rattle.std.proofs.Common.{refl, sym, ◌∙◌}
use Rattle.std.specs.Cmp.Lexicographic.{same_text}
use Rattle.std.proofs.lemmas.Bool.{false≢true}
use Rattle.std.proofs.lemmas.Slice.Eq.{bytes_eq-Decides}
use Rattle.bp_document.proofs.NodeSteps.{end_fed, no_end}
use Rattle.bp_document.proofs.node_step.step_end.Goals as goal

pub returns-then-eq : goal.returns-then-eq
returns-then-eq c most =
    end_fed c.args.head 0 most c.args.bytes.now refl (same_text c.args.bytes.now c.as_slice.result.now (sym c.if-eq.true ∙ c.eq.ensures) ∙ c.as_slice.ensures)

pub returns : goal.returns
returns c most =
    no_end c.args.head 0 most c.args.bytes.now refl
    (λ same. false≢true (sym c.if-eq.false ∙ c.eq.ensures ∙ (bytes_eq-Decides c.args.bytes.now c.as_slice.result.now).1 (same ∙ sym c.as_slice.ensures)))
