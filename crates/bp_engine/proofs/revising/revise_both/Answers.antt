use Rattle.std.proofs.Common.{inl, inr, refl}
use Rattle.bp_engine.proofs.BytesRead.{no_tree_quiet}
use Rattle.bp_engine.proofs.Revised.{revision_completes}
use Rattle.bp_engine.proofs.revising.revise_both.Goals as goal

pub returns-in-Ok-clause-revises : goal.returns-in-Ok-clause-revises
returns-in-Ok-clause-revises g c = inr (c.in-Ok.tree, c.in-Ok.ensures.reads, c.revise_against.ensures.revises)

pub returns-in-Ok-clause-complete : goal.returns-in-Ok-clause-complete
returns-in-Ok-clause-complete g c = λ read write.
    revision_completes c.checks_without_reason.ensures c.one_reason.ensures c.args.budget _ _ _ _ _ _ c.law_of_one_answer.ensures c.law_of_one_answer-2.ensures c.revise_against.result read write
    (inr (c.in-Ok.tree, c.in-Ok.ensures.reads, c.revise_against.ensures.revises))

pub returns-in-Ok-clause-order : goal.returns-in-Ok-clause-order
returns-in-Ok-clause-order g c = inr (c.in-Ok.tree, c.in-Ok.ensures.reads)

pub returns-in-Ok-clause-unread : goal.returns-in-Ok-clause-unread
returns-in-Ok-clause-unread g c = λ f is. absurd (c.revise_against.ensures.no_tree f is)

pub returns-in-Ok-clause-read : goal.returns-in-Ok-clause-read
returns-in-Ok-clause-read g c = λ is. inr (c.in-Ok.tree, c.in-Ok.ensures.reads, c.revise_against.ensures.read is)

pub returns-in-Err-clause-revises : goal.returns-in-Err-clause-revises
returns-in-Err-clause-revises g c = inl (c.in-Err.ensures.none, refl)

pub returns-in-Err-clause-complete : goal.returns-in-Err-clause-complete
returns-in-Err-clause-complete g c = λ read write.
    let held = g.K.Sink.held c.args.out.now in
    revision_completes c.checks_without_reason.ensures c.one_reason.ensures c.args.budget _ _ _ (g.D.Source.left c.args.doc.now) held held c.law_of_one_answer.ensures c.law_of_one_answer-2.ensures c.in-Err.status read write
    (inl (c.in-Err.ensures.none, refl))

pub returns-in-Err-clause-order : goal.returns-in-Err-clause-order
returns-in-Err-clause-order g c = inl refl

pub returns-in-Err-clause-loud : goal.returns-in-Err-clause-loud
returns-in-Err-clause-loud g c = no_tree_quiet _ _ c.in-Err.status c.in-Err.ensures.none

pub returns-in-Err-clause-read : goal.returns-in-Err-clause-read
returns-in-Err-clause-read g c = λ is. inl (c.in-Err.ensures.failed is, refl)
