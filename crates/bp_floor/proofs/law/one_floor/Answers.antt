use Rattle.bp_floor.proofs.Choice.{floor_unique}
use Rattle.bp_floor.proofs.law.one_floor.Goals as goal

pub returns : goal.returns
returns c f g p q = floor_unique c.args.metric.now.tree c.args.metric.now.sheet f g p q
