use Rattle.bp_engine.proofs.Verified.{handled}
use Rattle.bp_engine.proofs.verifying.verify_against.Goals as goal

pub returns-clause-verifies : goal.returns-clause-verifies
returns-clause-verifies g c =
    let a = c.verified-answered in
    handled (λ v. v.status) (λ v. v.text.items) c.args.tree.now _ _ _ _ c.write_answered.result a.result a.ensures.answers a.ensures.none c.write_answered.ensures.text c.write_answered.ensures.no_text
