use Rattle.std.proofs.Common.{inl, inr, refl, subst}
use Rattle.bp_base.specs.Tree.{TreeValue}
use Rattle.bp_metric.specs.Stated.{CoversStated}
use Rattle.bp_engine.specs.Run.{IsEnough}
use Rattle.bp_engine.proofs.BytesRead.{no_tree_quiet}
use Rattle.bp_engine.proofs.design.design.Goals as goal

pub returns-in-Ok-clause-designs : goal.returns-in-Ok-clause-designs
returns-in-Ok-clause-designs g c = inr (c.in-Ok.tree, c.in-Ok.ensures.reads, c.write_design.ensures.designs)

pub returns-in-Ok-clause-covered : goal.returns-in-Ok-clause-covered
returns-in-Ok-clause-covered g c = λ b U some text covers.
    c.write_design.ensures.covered (subst (λ (V : TreeValue). CoversStated V c.args.asked.sheet c.args.asked.budget) (c.in-Ok.ensures.only b U some text) covers)

pub returns-in-Ok-clause-enough : goal.returns-in-Ok-clause-enough
returns-in-Ok-clause-enough g c = λ b U some text enough.
    c.write_design.ensures.enough (subst (λ (V : TreeValue). IsEnough V c.args.asked.sheet c.args.asked.steady) (c.in-Ok.ensures.only b U some text) enough)

pub returns-in-Ok-clause-read : goal.returns-in-Ok-clause-read
returns-in-Ok-clause-read g c = λ is. absurd (c.write_design.ensures.no_read is)

pub returns-in-Err-clause-designs : goal.returns-in-Err-clause-designs
returns-in-Err-clause-designs g c = inl (c.in-Err.ensures.none, refl)

pub returns-in-Err-clause-loud : goal.returns-in-Err-clause-loud
returns-in-Err-clause-loud g c = no_tree_quiet _ _ c.in-Err.status c.in-Err.ensures.none
