use Rattle.bp_revise.proofs.Starts.{one_start_there}
use Rattle.bp_revise.proofs.laws.one_start.Goals as goal

pub returns : goal.returns
returns c = λ old p q a b. one_start_there c.args.metric.now.tree c.args.metric.now.sheet old c.one_opening.ensures p q a b
