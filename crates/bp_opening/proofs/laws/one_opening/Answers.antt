use Rattle.bp_opening.proofs.Unique.{one_opening}
use Rattle.bp_opening.proofs.laws.one_opening.Goals as goal

pub returns : goal.returns
returns c = one_opening c.args.metric.now.tree c.args.metric.now.sheet
