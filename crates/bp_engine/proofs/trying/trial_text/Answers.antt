use Rattle.std.proofs.Common.{false, subst}
use Rattle.bp_base.specs.declared.point.Sheet.{Sheet}
use Rattle.bp_metric.specs.Metric.{MetricValue}
use Rattle.bp_metric.specs.Valid.{Valid}
use Rattle.bp_design.specs.Design.{IsDesign}
use Rattle.bp_design.specs.Replayed.{IsCountedReplay}
use Rattle.bp_tally.specs.Pairs.{AreSettledCounts}
use Rattle.bp_engine.specs.Trials.{trial_budget, trial_hands}
use Rattle.bp_engine.proofs.trying.trial_text.Goals as goal

pub settled_tally-counts-requires-clause-side : goal.settled_tally-counts-requires-clause-side
settled_tally-counts-requires-clause-side c = c.in_ok-counted.ensures.design.proved.ranges.side

pub settled_tally-counts-requires-clause-valid : goal.settled_tally-counts-requires-clause-valid
settled_tally-counts-requires-clause-valid c =
    let D = c.in_ok-counted.counted.document in
    let d = c.in_ok-counted.ensures.design in
    subst (λ (g : Sheet). Valid c.in_ok-metric.metric.tree g 1 D.side D.points) d.proved.sheet d.proved.checks.valid

pub returns : goal.returns
returns c =
    let D = c.in_ok-counted.counted.document in
    let K = c.in_ok-counted.counted.examined in
    let same = c.in_ok-metric.ensures.value in
    record {
      tree = c.in_ok-tree.tree;
      made = c.in_ok-tree.ensures.made;
      document = D;
      design = subst (λ (M : MetricValue). IsDesign M.tree M.sheet trial_budget false D) same c.in_ok-counted.ensures.design;
      examined = K;
      counted = subst (λ (M : MetricValue). IsCountedReplay M.tree M.sheet trial_hands trial_budget c.args.seed D K) same c.in_ok-counted.ensures.counted;
      counts = c.settled_tally-counts.result;
      settled = subst (λ (M : MetricValue). AreSettledCounts M.tree M.sheet D.side D.points c.settled_tally-counts.result) same c.settled_tally-counts.ensures;
      text_is = c.in_ok-text.ensures;
    }
