use Rattle.bp_regions.proofs.Alike.{between_cuts}
use Rattle.bp_regions.proofs.laws.law_of_cuts.Goals as goal

pub returns : goal.returns
returns c = between_cuts c.args.metric.now.tree
