use Rattle.bp_verify.proofs.Deciding.{found_verdict}
use Rattle.bp_verify.proofs.laws.law_of_verdicts.Goals as goal

pub returns : goal.returns
returns c = λ T C f sound found. found_verdict T C sound f found
