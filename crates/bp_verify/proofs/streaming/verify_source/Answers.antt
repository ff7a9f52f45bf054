use Rattle.bp_verify.proofs.streaming.verify_source.Goals as goal

pub returns-clause-verifies : goal.returns-clause-verifies
returns-clause-verifies g c = c.verify_all-verified.ensures.verifies c.args.tree.now c.in_ok-intake.ensures.nothing
