use Rattle.bp_document.proofs.OneAnswer.{has_one_answer}
use Rattle.bp_document.proofs.laws.law_of_one_answer.Goals as goal

pub returns : goal.returns
returns c = has_one_answer
