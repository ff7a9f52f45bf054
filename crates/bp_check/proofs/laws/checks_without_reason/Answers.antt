use Rattle.bp_check.proofs.Reasoning.{none_fails}
use Rattle.bp_check.proofs.laws.checks_without_reason.Goals as goal

pub returns : goal.returns
returns c = λ T D r checks first. none_fails T D checks r first.fails
