use Rattle.bp_pairs.proofs.SteadyLists.{steady_exists}
use Rattle.bp_pairs.proofs.laws.has_steady.Goals as goal

pub returns : goal.returns
returns c s P valid = steady_exists c.args.metric.now.tree c.args.metric.now.sheet s P valid
