use Rattle.bp_walks.proofs.LeastThere.{least_there}
use Rattle.bp_walks.proofs.laws.has_least.Goals as goal

pub returns : goal.returns
returns c path pairs fine = least_there c.args.metric.now.tree c.leaves-leaves.ensures.metric.tree c.args.metric.now.sheet path pairs fine
