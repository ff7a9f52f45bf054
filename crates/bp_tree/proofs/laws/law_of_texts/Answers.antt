use Rattle.bp_tree.proofs.ReadBack.{reads_back}
use Rattle.bp_tree.proofs.laws.law_of_texts.Goals as goal

pub returns : goal.returns
returns c = reads_back
