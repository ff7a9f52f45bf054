use Rattle.std.proofs.Common.{◌≤◌, length, subst}
use Rattle.bp_base.specs.Tree.{leaf_count}
use Rattle.bp_metric.specs.Chains.{HasPairsOf}
use Rattle.bp_metric.specs.Metric.{MetricValue}
use Rattle.bp_branch.proofs.Picked.{differing_short}
use Rattle.bp_warm.specs.Warm.{pair_count}
use Rattle.bp_turn.proofs.examining.go_or_stop.Goals as goal

pub go_from-requires-clause-short : goal.go_from-requires-clause-short
go_from-requires-clause-short c =
    subst (λ (m : MetricValue). length c.args.path.now ≤ pair_count m.tree) c.requires.metric (differing_short c.args.metric.now.tree c.leaves-leaves.ensures.metric.tree c.args.path.now c.requires.pairs c.requires.differ)

pub go_from-requires-clause-pairs : goal.go_from-requires-clause-pairs
go_from-requires-clause-pairs c =
    subst (λ (m : MetricValue). HasPairsOf (leaf_count m.tree) c.args.path.now) c.requires.metric c.requires.pairs
