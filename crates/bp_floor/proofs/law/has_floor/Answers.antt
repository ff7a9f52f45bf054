use Rattle.bp_floor.proofs.Choice.{floor_exists}
use Rattle.bp_floor.proofs.law.has_floor.Goals as goal

pub returns : goal.returns
returns c = floor_exists c.args.metric.now.tree c.leaves-count.ensures.metric.tree c.args.metric.now.sheet
