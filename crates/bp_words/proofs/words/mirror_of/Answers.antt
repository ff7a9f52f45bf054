use Rattle.std.proofs.Common.{◌∙◌}
use Rattle.bp_words.proofs.WordLemmas.{no_mirror}
use Rattle.bp_words.proofs.words.mirror_of.Goals as goal

pub returns-in-None-kind_of : goal.returns-in-None-kind_of
returns-in-None-kind_of c = no_mirror _ c.in-Some.place c.requires c.in-Some.ensures (λ kind is. c.in-None-kind_of.ensures kind (c.word_at.ensures ∙ is))
