use Rattle.bp_opening.proofs.Exists.{has_opening}
use Rattle.bp_opening.proofs.laws.has_opening.Goals as goal

pub returns : goal.returns
returns c = has_opening c.args.metric.now.tree c.leaves-leaves.ensures.metric.tree c.args.metric.now.sheet c.leaves-leaves.ensures.metric.sheet
