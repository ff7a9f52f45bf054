use Rattle.bp_check.proofs.Reasoning.{found_some, if_ok}
use Rattle.bp_check.proofs.checking.found_of_proof.Goals as goal

pub returns-in-Some : goal.returns-in-Some
returns-in-Some c =
    if_ok c.found_in.result (λ f is. found_some c.args.metric.now.tree c.args.metric.now.sheet c.args.proof.now c.in-Some.refutation f c.in-Some.is is) c.found_in.ensures
