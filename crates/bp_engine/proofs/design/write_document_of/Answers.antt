use Rattle.std.proofs.Common.{inr, refl}
use Rattle.bp_engine.proofs.Outcomes.{drawable, not_covered, of_tree, outcome_loud, outcome_read, outcome_steady}
use Rattle.bp_engine.proofs.design.write_document_of.Goals as goal

pub write_outcome-requires-clause-ranges : goal.write_outcome-requires-clause-ranges
write_outcome-requires-clause-ranges g c = c.requires.design.0.proved.ranges

pub write_outcome-requires-clause-valid : goal.write_outcome-requires-clause-valid
write_outcome-requires-clause-valid g c = drawable c.args._tree.now c.args.asked c.args.document c.requires.design c.requires.asked.placed.square

pub returns-in-Ok-clause-designs : goal.returns-in-Ok-clause-designs
returns-in-Ok-clause-designs g c =
    of_tree c.args._tree.now c.args.asked c.args.document c.in-Ok.text.items _ _ c.write_outcome.result c.in-Ok.ensures c.requires.design c.write_outcome.ensures.writes

pub returns-in-Ok-clause-covered : goal.returns-in-Ok-clause-covered
returns-in-Ok-clause-covered g c =
    not_covered c.args._tree.now c.args.asked c.args.document c.in-Ok.text.items _ _ c.write_outcome.result c.requires.design c.write_outcome.ensures.writes

pub returns-in-Ok-clause-steady : goal.returns-in-Ok-clause-steady
returns-in-Ok-clause-steady g c = outcome_steady c.write_outcome.result c.write_outcome.ensures.ends

pub returns-in-Ok-clause-loud : goal.returns-in-Ok-clause-loud
returns-in-Ok-clause-loud g c = outcome_loud c.write_outcome.result c.write_outcome.ensures.ends

pub returns-in-Ok-clause-no_read : goal.returns-in-Ok-clause-no_read
returns-in-Ok-clause-no_read g c = outcome_read c.write_outcome.result c.write_outcome.ensures.ends

pub returns-in-Err-clause-designs : goal.returns-in-Err-clause-designs
returns-in-Err-clause-designs g c = inr (inr (tt, refl))
