use Rattle.std.proofs.Common.{ap}
use Rattle.std.proofs.lemmas.Result.{IfOk-weaker}
use Rattle.bp_metric.specs.Metric.{MetricValue}
use Rattle.bp_engine.proofs.Outcomes.{disjoint}
use Rattle.bp_engine.proofs.folding.fold_text.Goals as goal

pub returns-clause-disjoint : goal.returns-clause-disjoint
returns-clause-disjoint c =
    let M = c.in_ok-metric.metric in
    let same = ap (λ (m : MetricValue). m.tree) c.in_ok-metric.ensures.value in
    IfOk-weaker c.text_of.result _ _ (λ v text. disjoint M.tree c.args.document same c.law_of_regions.ensures.disjoint c.requires.valid) c.text_of.ensures
