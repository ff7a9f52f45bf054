use Rattle.bp_check.proofs.Reasoning.{one_first}
use Rattle.bp_check.proofs.laws.one_reason.Goals as goal

pub returns : goal.returns
returns c = one_first
