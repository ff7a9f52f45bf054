use Rattle.bp_engine.proofs.Revised.{handled}
use Rattle.bp_engine.proofs.revising.revise_against.Goals as goal

pub returns-clause-revises : goal.returns-clause-revises
returns-clause-revises g c =
    let a = c.revised_from-answered in
    handled (λ v. v.status) (λ v. v.text.items) c.args.tree.now c.args.budget _ _ _ _ c.write_answered.result a.result a.ensures.answers a.ensures.none c.write_answered.ensures.text c.write_answered.ensures.no_text
