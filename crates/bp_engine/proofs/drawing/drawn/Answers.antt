use Rattle.std.proofs.Common.{refl, sym, subst}
use Rattle.bp_base.specs.declared.point.Sheet.{Sheet}
use Rattle.bp_check.specs.declared.verdict.Reason.TheVariants.{StripSheet}
use Rattle.bp_engine.specs.Documents.{IsReasonOn}
use Rattle.bp_engine.proofs.drawing.drawn.Goals as goal

pub returns-in-Strip-clause-answer : goal.returns-in-Strip-clause-answer
returns-in-Strip-clause-answer c =
    c.refused.ensures.answer c.args.document (subst (λ (G : Sheet). IsReasonOn G c.args.document StripSheet) (sym c.in-Strip.is) refl)
