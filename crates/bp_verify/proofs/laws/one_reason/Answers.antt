use Rattle.bp_verify.proofs.Reasoning.{one_first}
use Rattle.bp_verify.proofs.laws.one_reason.Goals as goal

pub returns : goal.returns
returns c = one_first
