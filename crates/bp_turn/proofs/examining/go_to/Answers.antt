use Rattle.std.proofs.Common.{◌≤◌, length, subst}
use Rattle.bp_metric.specs.Metric.{MetricValue}
use Rattle.bp_branch.proofs.Picked.{branch_short}
use Rattle.bp_warm.specs.Warm.{pair_count}
use Rattle.bp_turn.proofs.examining.go_to.Goals as goal

pub go_from-requires-clause-short : goal.go_from-requires-clause-short
go_from-requires-clause-short c =
    subst (λ (m : MetricValue). length c.args.path.now ≤ pair_count m.tree) c.requires.metric (branch_short c.args.metric.now.tree c.leaves-leaves.ensures.metric.tree c.args.path.now c.requires.branch)
