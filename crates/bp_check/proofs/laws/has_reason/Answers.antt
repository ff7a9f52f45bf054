use Rattle.bp_check.proofs.Deciding.{has_reason}
use Rattle.bp_check.proofs.laws.has_reason.Goals as goal

pub returns : goal.returns
returns c = has_reason
