use Rattle.std.proofs.Common.{ap}
use Rattle.bp_metric.specs.Metric.{MetricValue}
use Rattle.bp_metric.proofs.Distances.{read_leaf_within}
use Rattle.bp_metric.proofs.metric.Metric.leaf_node.Goals as goal

pub returns-clause-within : goal.returns-clause-within
returns-clause-within c =
    read_leaf_within c.self.inside.tree c.parents-tree.ensures.tree c.self.inside.leaves.items c.args.self.now.tree c.args.leaf c.index.result.now c.self.invariant.0 (ap (λ (v : MetricValue). v.tree) c.self.view_is) c.requires c.index.ensures
