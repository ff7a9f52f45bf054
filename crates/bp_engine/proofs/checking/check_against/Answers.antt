use Rattle.bp_engine.specs.Checking.{IsChecked}
use Rattle.bp_engine.proofs.Answered.{handled}
use Rattle.bp_engine.proofs.checking.check_against.Goals as goal

pub returns-clause-checks : goal.returns-clause-checks
returns-clause-checks g c =
    let a = c.checked-answered in
    handled (λ v. v.status) (λ v. v.text.items) (IsChecked c.args.tree.now) _ _ _ _ c.write_answered.result a.result a.ensures.answers a.ensures.none c.write_answered.ensures.text c.write_answered.ensures.no_text
