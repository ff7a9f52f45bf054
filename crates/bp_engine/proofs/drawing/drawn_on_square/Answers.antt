use Rattle.bp_engine.proofs.Drawn.{on_square}
use Rattle.bp_engine.proofs.drawing.drawn_on_square.Goals as goal

pub returns-in-No-clause-answer : goal.returns-in-No-clause-answer
returns-in-No-clause-answer c =
    c.refused.ensures.answer c.args.document (on_square c.args.document c.in-No.reason c.requires.square ((c.in_ok-check.ensures.no c.in-No.reason).0 c.in-No.is))
