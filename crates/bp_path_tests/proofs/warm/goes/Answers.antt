use Rattle.std.proofs.Common.{◌≡◌, ℕ, ◌∙◌, ap, subst}
use Rattle.bp_base.specs.Tree.{leaf_count}
use Rattle.bp_metric.specs.Chains.{HasPairsOf}
use Rattle.bp_metric.specs.Metric.{MetricValue}
use Rattle.bp_path_tests.proofs.warm.goes.Goals as goal

pub go_to-requires-clause-pairs : goal.go_to-requires-clause-pairs
go_to-requires-clause-pairs c =
    subst (λ (n : ℕ). HasPairsOf n c.in_ok-path.path) (c.leaves-n.ensures.count ∙ ap (λ (m : MetricValue). leaf_count m.tree) c.requires) c.in_ok-path.ensures.pairs
