use Rattle.bp_engine.proofs.Drawings.{drawn_handled}
use Rattle.bp_engine.proofs.drawing.draw.Goals as goal

pub returns-clause-draws : goal.returns-clause-draws
returns-clause-draws g c =
    let a = c.drawn_from-answered in
    drawn_handled (λ v. v.status) (λ v. v.text.items) c.args.drawing _ _ _ _ c.write_answered.result a.result a.ensures.answers a.ensures.none c.write_answered.ensures.text c.write_answered.ensures.no_text
