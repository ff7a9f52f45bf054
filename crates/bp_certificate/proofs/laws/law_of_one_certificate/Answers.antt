use Rattle.bp_certificate.proofs.OneAnswer.{has_one_answer}
use Rattle.bp_certificate.proofs.laws.law_of_one_certificate.Goals as goal

pub returns : goal.returns
returns c = has_one_answer
