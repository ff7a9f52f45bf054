use Rattle.bp_branch.proofs.NextPairs.{next_there}
use Rattle.bp_branch.proofs.laws.has_next.Goals as goal

pub returns : goal.returns
returns c path l least = next_there c.args.metric.now.tree c.leaves-leaves.ensures.metric.tree c.args.metric.now.sheet path l least
