use Rattle.std.proofs.Common.{subst}
use Rattle.bp_metric.specs.Metric.{MetricValue}
use Rattle.bp_base.specs.Tree.{IsTree}
use Rattle.bp_machine.specs.Facts.{HasFacts}
use Rattle.bp_machine.proofs.Kept.{kept, same_metric}
use Rattle.bp_machine.proofs.laws.law_of_steps.Goals as goal

pub returns-clause-facts : goal.returns-clause-facts
returns-clause-facts c S to event same facts step =
    subst (λ (M : MetricValue). IsTree M.tree → HasFacts M.tree M.sheet S → HasFacts M.tree M.sheet to) same (λ tree holds. kept S event to tree holds step) c.leaves-leaves.ensures.metric.tree facts

pub returns-clause-metric : goal.returns-clause-metric
returns-clause-metric c S to event step = same_metric S event to step
