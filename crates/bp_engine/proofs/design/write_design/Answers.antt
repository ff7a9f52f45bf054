use Rattle.std.proofs.Common.{inr, refl}
use Rattle.bp_engine.proofs.Outcomes.{none_covered, none_enough, none_loud, none_read, none_write}
use Rattle.bp_engine.proofs.design.write_design.Goals as goal

pub returns-in-Ok-clause-enough : goal.returns-in-Ok-clause-enough
returns-in-Ok-clause-enough g c = λ enough. c.write_document_of.ensures.steady

pub returns-in-Err-clause-enough : goal.returns-in-Err-clause-enough
returns-in-Err-clause-enough g c = none_enough c.args.tree.now c.args.asked c.in-Err.status c.in-Err.ensures.none

pub returns-in-Err-clause-designs : goal.returns-in-Err-clause-designs
returns-in-Err-clause-designs g c = inr (inr (c.in-Err.ensures.none, refl))

pub returns-in-Err-clause-covered : goal.returns-in-Err-clause-covered
returns-in-Err-clause-covered g c = λ covers. none_covered c.args.tree.now c.args.asked c.in-Err.status c.in-Err.ensures.none

pub returns-in-Err-clause-loud : goal.returns-in-Err-clause-loud
returns-in-Err-clause-loud g c = none_loud c.args.tree.now c.args.asked c.in-Err.status c.in-Err.ensures.none

pub returns-in-Err-clause-no_read : goal.returns-in-Err-clause-no_read
returns-in-Err-clause-no_read g c = none_read c.args.tree.now c.args.asked c.in-Err.status c.in-Err.ensures.none

pub returns-in-Err-clause-write : goal.returns-in-Err-clause-write
returns-in-Err-clause-write g c = λ is. absurd (none_write c.args.tree.now c.args.asked c.in-Err.status c.in-Err.ensures.none is)
