use Rattle.std.proofs.Common.{◌≡◌, Some, None, sym, ◌∙◌, subst, List, ℕ}
use Rattle.std.specs.Cmp.Lexicographic.{same_text}
use Rattle.std.proofs.lemmas.Bool.{false≢true}
use Rattle.std.proofs.lemmas.Slice.Eq.{bytes_eq-Decides}
use Rattle.bp_base.specs.Tree.{name_of}
use Rattle.bp_document.specs.Forms.{IsPointForm}
use Rattle.bp_document.proofs.Forms.{point_exact}
use Rattle.bp_document.proofs.LineSteps.{no_point, bad_point}
use Rattle.bp_document.proofs.point_step.read_point.Goals as goal

pub returns-in_default : goal.returns-in_default
returns-in_default c = no_point (name_of c.args.tree.now c.args.node) c.args.bytes.now (point_exact c.args.bytes.now None c.in_default.ensures)

pub returns-else-eq : goal.returns-else-eq
returns-else-eq c =
    bad_point (name_of c.args.tree.now c.args.node) c.args.bytes.now c.in-Some.form (point_exact c.args.bytes.now (Some c.in-Some.form) c.in-Some.ensures)
    (λ same. false≢true (sym c.if-eq.false ∙ c.eq.ensures ∙ (bytes_eq-Decides c.bytes.result.now c.name_at.result.now).1 (c.bytes.ensures.value ∙ same ∙ sym c.name_at.ensures)))

pub returns-then-eq : goal.returns-then-eq
returns-then-eq c =
    let same : c.in-Some.form.name ≡ name_of c.args.tree.now c.args.node = sym c.bytes.ensures.value ∙ same_text c.bytes.result.now c.name_at.result.now (sym c.if-eq.true ∙ c.eq.ensures) ∙ c.name_at.ensures in
    subst (λ (name : List ℕ). IsPointForm c.args.bytes.now name c.in-Some.form.point) same (point_exact c.args.bytes.now (Some c.in-Some.form) c.in-Some.ensures)
