use Rattle.bp_check.proofs.streaming.check_source.Goals as goal

pub returns-clause-streams : goal.returns-clause-streams
returns-clause-streams g c = c.check_all-streamed.ensures.streams c.args.tree.now c.in_ok-intake.ensures.nothing
