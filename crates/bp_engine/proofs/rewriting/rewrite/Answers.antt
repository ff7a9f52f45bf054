use Rattle.bp_engine.specs.Documents.{IsRewritten}
use Rattle.bp_engine.proofs.Answered.{handled}
use Rattle.bp_engine.proofs.rewriting.rewrite.Goals as goal

pub returns-clause-rewrites : goal.returns-clause-rewrites
returns-clause-rewrites g c =
    let a = c.rewritten_from-answered in
    handled (λ v. v.status) (λ v. v.text.items) IsRewritten _ _ _ _ c.write_answered.result a.result a.ensures.answers a.ensures.none c.write_answered.ensures.text c.write_answered.ensures.no_text
