use Rattle.std.proofs.Common.{List, ◌∙◌, subst}
use Rattle.bp_base.specs.declared.point.Point.{Point}
use Rattle.bp_pairs.specs.Flaws.{IsFlaw}
use Rattle.bp_verify.proofs.Reasoning.{flaw_before}
use Rattle.bp_verify.proofs.judging.reason_before_lemmas.Goals as goal

pub returns-in-Err : goal.returns-in-Err
returns-in-Err c = λ C h.
    let T = c.args.metric.now.tree in
    let G = c.args.metric.now.sheet in
    let H = c.args.head.now in
    flaw_before T G C H c.requires.sheet h (c.are_same.ensures.0 c.if-not-are_same.false ∙ c.tree.ensures.tree) c.in-Err.flaw c.reason_of.result c.reason_of.ensures
    (subst (λ (P : List Point). IsFlaw T G H.side P c.in-Err.flaw) c.as_slice.ensures ((c.is_valid.ensures.flaw c.in-Err.flaw).0 c.in-Err.is))
