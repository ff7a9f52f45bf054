use Rattle.std.proofs.Common.{sym, ◌∙◌}
use Rattle.std.specs.Cmp.Lexicographic.{same_text}
use Rattle.bp_certificate.proofs.FactWords.{first_byte, not_before_parts}
use Rattle.bp_certificate.proofs.fact_form.fact_of_parts.Goals as goal

pub returns-then-front-eq33 : goal.returns-then-front-eq33
returns-then-front-eq33 c =
    not_before_parts c.args.front.now _ c.args.sign.now c.args.back.now c.not_before_of.result (first_byte c.args.front.now 33 (sym c.if-not-is_empty.ensures) c.if-front-eq33.true) (same_text c.args.sign.now c.as_slice.result.now (sym c.if-eq.true ∙ c.eq.ensures) ∙ c.as_slice.ensures) c.not_before_of.ensures
