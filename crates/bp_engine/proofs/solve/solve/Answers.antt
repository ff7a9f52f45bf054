use Rattle.std.proofs.Common.{inl, inr, refl}
use Rattle.bp_engine.proofs.BytesRead.{no_tree_quiet}
use Rattle.bp_engine.proofs.solve.solve.Goals as goal

pub returns-in-Ok-clause-solves : goal.returns-in-Ok-clause-solves
returns-in-Ok-clause-solves g c = inr (c.in-Ok.tree, c.in-Ok.ensures.reads, c.write_solved.ensures.solves)

pub returns-in-Ok-clause-read : goal.returns-in-Ok-clause-read
returns-in-Ok-clause-read g c = λ is. absurd (c.write_solved.ensures.no_read is)

pub returns-in-Err-clause-solves : goal.returns-in-Err-clause-solves
returns-in-Err-clause-solves g c = inl (c.in-Err.ensures.none, refl)

pub returns-in-Err-clause-loud : goal.returns-in-Err-clause-loud
returns-in-Err-clause-loud g c = no_tree_quiet _ _ c.in-Err.status c.in-Err.ensures.none
