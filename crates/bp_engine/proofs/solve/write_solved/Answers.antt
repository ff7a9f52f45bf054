use Rattle.std.proofs.Common.{inr, refl, ◌∙◌}
use Rattle.bp_engine.proofs.Outcomes.{of_solved, outcome_loud, outcome_read, placed_document, solved_drawable}
use Rattle.bp_engine.proofs.solve.write_solved.Goals as goal

pub write_outcome-requires-clause-ranges : goal.write_outcome-requires-clause-ranges
write_outcome-requires-clause-ranges g c = placed_document c.in-Ok.answer.certificate c.placed-document.result c.placed-document.ensures c.in-Ok.ensures.proved.readable.ranges

pub write_outcome-requires-clause-valid : goal.write_outcome-requires-clause-valid
write_outcome-requires-clause-valid g c = solved_drawable c.args.tree.now c.args.asked c.in-Ok.answer c.placed-document.result c.placed-document.ensures c.in-Ok.ensures c.requires.square

pub returns-in-Ok-clause-solves : goal.returns-in-Ok-clause-solves
returns-in-Ok-clause-solves g c =
    of_solved c.args.tree.now c.args.asked c.in-Ok.answer c.into_vec-text.result.items c.placed-document.result _ _ c.write_outcome.result (c.into_vec-text.ensures ∙ c.in-Ok.ensures.written.text) c.placed-document.ensures c.in-Ok.ensures c.write_outcome.ensures.writes

pub returns-in-Ok-clause-loud : goal.returns-in-Ok-clause-loud
returns-in-Ok-clause-loud g c = outcome_loud c.write_outcome.result c.write_outcome.ensures.ends

pub returns-in-Ok-clause-no_read : goal.returns-in-Ok-clause-no_read
returns-in-Ok-clause-no_read g c = outcome_read c.write_outcome.result c.write_outcome.ensures.ends

pub returns-in-Err-clause-solves : goal.returns-in-Err-clause-solves
returns-in-Err-clause-solves g c = inr (inr (refl, refl))
