use Rattle.bp_engine.proofs.Doings.{does_as, leaves_as}
use Rattle.bp_engine.proofs.command.answer.Goals as goal

pub returns-in-Some-clause-does : goal.returns-in-Some-clause-does
returns-in-Some-clause-does g c = λ w asks.
    does_as w c.in-Some.asked _ _ c.do_asked.result (c.one_meaning.ensures w c.in-Some.asked asks c.in-Some.ensures) c.do_asked.ensures.does

pub returns-in-Some-clause-leaves : goal.returns-in-Some-clause-leaves
returns-in-Some-clause-leaves g c = λ w asks.
    leaves_as w c.in-Some.asked _ _ c.do_asked.result _ _ _ _ _ _ _ _ (c.one_meaning.ensures w c.in-Some.asked asks c.in-Some.ensures) c.do_asked.ensures.leaves
