use Rattle.bp_tally.proofs.Tallied.{held}
use Rattle.bp_tally.proofs.tallying.is_held.Goals as goal

pub returns : goal.returns
returns c = held c.args.metric.now.tree c.args.points.now c.args.pair c.args.choice c.holds.result c.holds.ensures
