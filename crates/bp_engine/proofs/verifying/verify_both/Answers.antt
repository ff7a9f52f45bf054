use Rattle.std.proofs.Common.{inl, inr, refl}
use Rattle.bp_engine.proofs.BytesRead.{no_tree_quiet}
use Rattle.bp_engine.proofs.verifying.verify_both.Goals as goal

pub returns-in-Ok-clause-verifies : goal.returns-in-Ok-clause-verifies
returns-in-Ok-clause-verifies g c = inr (c.in-Ok.tree, c.in-Ok.ensures.reads, c.verify_against.ensures.verifies)

pub returns-in-Ok-clause-order : goal.returns-in-Ok-clause-order
returns-in-Ok-clause-order g c = inr (c.in-Ok.tree, c.in-Ok.ensures.reads)

pub returns-in-Ok-clause-unread : goal.returns-in-Ok-clause-unread
returns-in-Ok-clause-unread g c = λ f is. absurd (c.verify_against.ensures.no_tree f is)

pub returns-in-Ok-clause-read : goal.returns-in-Ok-clause-read
returns-in-Ok-clause-read g c = λ is. inr (c.in-Ok.tree, c.in-Ok.ensures.reads, c.verify_against.ensures.read is)

pub returns-in-Err-clause-verifies : goal.returns-in-Err-clause-verifies
returns-in-Err-clause-verifies g c = inl (c.in-Err.ensures.none, refl)

pub returns-in-Err-clause-order : goal.returns-in-Err-clause-order
returns-in-Err-clause-order g c = inl refl

pub returns-in-Err-clause-loud : goal.returns-in-Err-clause-loud
returns-in-Err-clause-loud g c = no_tree_quiet _ _ c.in-Err.status c.in-Err.ensures.none

pub returns-in-Err-clause-read : goal.returns-in-Err-clause-read
returns-in-Err-clause-read g c = λ is. inl (c.in-Err.ensures.failed is, refl)
