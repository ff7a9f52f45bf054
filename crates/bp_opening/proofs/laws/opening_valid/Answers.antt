use Rattle.bp_opening.proofs.Packing.{opening_valid}
use Rattle.bp_opening.proofs.laws.opening_valid.Goals as goal

pub returns : goal.returns
returns c = opening_valid c.args.metric.now.tree c.args.metric.now.sheet
