use Rattle.bp_metric.proofs.Distances.{dist_same, dist_comm, triangle}
use Rattle.bp_metric.proofs.laws.triangle.Goals as goal

pub returns-clause-same : goal.returns-clause-same
returns-clause-same c = dist_same c.args.metric.now.tree c.leaves-leaves.ensures.metric.tree

pub returns-clause-both_ways : goal.returns-clause-both_ways
returns-clause-both_ways c = dist_comm c.args.metric.now.tree c.leaves-leaves.ensures.metric.tree

pub returns-clause-third : goal.returns-clause-third
returns-clause-third c = triangle c.args.metric.now.tree c.leaves-leaves.ensures.metric.tree
