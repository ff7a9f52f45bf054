use Rattle.bp_engine.proofs.Drawings.{own_strip}
use Rattle.bp_engine.proofs.certified.own_drawn.Goals as goal

pub returns-in-Strip-clause-answer : goal.returns-in-Strip-clause-answer
returns-in-Strip-clause-answer c = own_strip (λ v. v.status) (λ v. v.text.items) c.args.drawing c.args.own _ c.refused.result c.in-Strip.is c.refused.ensures.told
