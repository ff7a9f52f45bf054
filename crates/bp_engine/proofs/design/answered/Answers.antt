use Rattle.std.proofs.Common.{subst}
use Rattle.bp_base.specs.declared.point.Sheet.{Sheet}
use Rattle.bp_design.specs.Steadied.{IsSteadied, IsSteadyOf}
use Rattle.bp_engine.proofs.Outcomes.{by_steady}
use Rattle.bp_engine.proofs.design.answered.Goals as goal

pub returns-in-Ok-Found-clause-design : goal.returns-in-Ok-Found-clause-design
returns-in-Ok-Found-clause-design c =
    let T = c.args.metric.now.tree in
    let D = c.args.document in
    let E = c.in-Ok-Found.document in
    let s : IsSteadyOf T c.args.metric.now.sheet D E = subst (IsSteadied T c.args.metric.now.sheet c.in-Some.budget D) c.in-Ok-Found.field-0-is c.in-Ok-Found.ensures in
    by_steady T c.args.asked D E c.in-Some.budget c.in-Some.is c.requires.design (subst (λ (G : Sheet). IsSteadyOf T G D E) c.requires.sheet s)
