use Rattle.bp_machine.proofs.state.State.step.Goals as goal

pub returns-clause-facts : goal.returns-clause-facts
returns-clause-facts c = c.law_of_steps.ensures.facts c.args.self.now c.take.new.self c.args.event c.requires.metric c.requires.facts c.in_ok-take.ensures.done

pub returns-clause-metric : goal.returns-clause-metric
returns-clause-metric c = c.law_of_steps.ensures.metric c.args.self.now c.take.new.self c.args.event c.in_ok-take.ensures.done
