use Rattle.bp_floor.proofs.BoxCounts.{floor_law}
use Rattle.bp_floor.proofs.law.law_of_floors.Goals as goal

pub returns : goal.returns
returns c f holds = floor_law c.args.metric.now.tree c.args.metric.now.sheet f holds
