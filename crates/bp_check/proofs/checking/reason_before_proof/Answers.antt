use Rattle.std.proofs.Common.{◌∙◌, refl, sym}
use Rattle.std.proofs.lemmas.Bool.{true≢false}
use Rattle.bp_check.proofs.Reasoning.{differs_before, flaw_before, floor_before, none_before}
use Rattle.bp_check.proofs.checking.reason_before_proof.Goals as goal

pub returns-then-not-are_same : goal.returns-then-not-are_same
returns-then-not-are_same c = λ D parts.
    differs_before c.args.metric.now.tree D c.args.own.now c.args.metric.now.sheet c.args.side c.args.points.now c.args.floor.now parts
    (λ is. true≢false (sym (c.are_same.ensures.1 (is ∙ sym c.tree.ensures.tree)) ∙ c.if-not-are_same.true))

pub returns-in-Err : goal.returns-in-Err
returns-in-Err c = λ D parts.
    flaw_before c.args.metric.now.tree D c.args.own.now c.args.metric.now.sheet c.args.side c.args.points.now c.args.floor.now parts (c.are_same.ensures.0 c.if-not-are_same.false ∙ c.tree.ensures.tree)
    c.in-Err.flaw c.reason_of.result c.reason_of.ensures ((c.is_valid.ensures.flaw c.in-Err.flaw).0 c.in-Err.is)

pub returns-then-not-floor_holds : goal.returns-then-not-floor_holds
returns-then-not-floor_holds c = λ D parts.
    floor_before c.args.metric.now.tree D c.args.own.now c.args.metric.now.sheet c.args.side c.args.points.now c.args.floor.now parts (c.are_same.ensures.0 c.if-not-are_same.false ∙ c.tree.ensures.tree)
    (c.in_default.ensures.valid.0 refl) (λ holds. true≢false (sym (c.floor_holds.ensures.1 holds) ∙ c.if-not-floor_holds.true))

pub returns : goal.returns
returns c = λ D parts.
    none_before c.args.metric.now.tree D c.args.own.now c.args.metric.now.sheet c.args.side c.args.points.now c.args.floor.now parts (c.are_same.ensures.0 c.if-not-are_same.false ∙ c.tree.ensures.tree)
    (c.in_default.ensures.valid.0 refl) (c.floor_holds.ensures.0 c.if-not-floor_holds.false)
