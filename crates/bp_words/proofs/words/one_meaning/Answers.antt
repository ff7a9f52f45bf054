use Rattle.bp_words.proofs.WordLemmas.{one_asked}
use Rattle.bp_words.proofs.words.one_meaning.Goals as goal

pub returns : goal.returns
returns c = one_asked _
