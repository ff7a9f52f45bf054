use Rattle.bp_metric.proofs.Leaves.{leaves_apart}
use Rattle.bp_metric.proofs.laws.leaves_apart.Goals as goal

pub returns : goal.returns
returns c = λ i j pair. leaves_apart c.args.metric.now.tree c.leaves-leaves.ensures.metric.tree i j pair.0 pair.1 pair.2
