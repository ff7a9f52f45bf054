use Rattle.std.proofs.Common.{false, subst}
use Rattle.bp_metric.specs.Metric.{MetricValue}
use Rattle.bp_design.specs.Design.{IsDesign}
use Rattle.bp_design.specs.Replayed.{IsReplay}
use Rattle.bp_engine.proofs.tree_design.design_tree.Goals as goal

pub returns-clause-design : goal.returns-clause-design
returns-clause-design c =
    subst (λ (M : MetricValue). IsDesign M.tree M.sheet c.args.budget false c.in_ok-document.document) c.in_ok-metric.ensures.value c.in_ok-document.ensures.design

pub returns-clause-replay : goal.returns-clause-replay
returns-clause-replay c =
    subst (λ (M : MetricValue). IsReplay M.tree M.sheet 1 c.args.budget 0 false c.in_ok-document.document) c.in_ok-metric.ensures.value c.in_ok-document.ensures.replay
