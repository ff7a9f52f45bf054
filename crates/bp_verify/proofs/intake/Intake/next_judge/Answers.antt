use Rattle.std.proofs.Common.{sym, ◌∙◌, ap}
use Rattle.bp_metric.specs.Metric.{MetricValue}
use Rattle.bp_verify.proofs.Heads.{first_judge, judged_there}
use Rattle.bp_verify.proofs.intake.Intake.next_judge.Goals as goal

pub returns-in-Some-clause-judge : goal.returns-in-Some-clause-judge
returns-in-Some-clause-judge c = λ T text all ls H scanned told. judged_there T c.args.self.now c.in-Some.judge text all ls H (sym c.take.ensures.value ∙ c.in-Some.is) scanned told

pub returns-clause-judge : goal.returns-clause-judge
returns-clause-judge c =
    first_judge c.args.self.now c.set_sheet.new.self c.in-Some-head.head.now c.open.result (sym c.take.ensures.value ∙ c.in_default.is) (ap (λ (M : MetricValue). M.tree) c.set_sheet.ensures) c.in-Some-head.ensures.head c.open.ensures
