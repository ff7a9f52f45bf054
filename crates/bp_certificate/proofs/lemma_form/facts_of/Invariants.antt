use Rattle.std.proofs.Common.{length}
use Rattle.bp_document.specs.Words.{words_behind}
use Rattle.bp_certificate.proofs.WordLists.{FactsRead}
use Rattle.bp_certificate.proofs.lemma_form.facts_of.Given as goal

abbrev pub invariant-loop-word : goal.invariant-loop-word
invariant-loop-word l = FactsRead (words_behind l.bytes) l.facts (words_behind l.rest)

abbrev pub decreases-loop-word : goal.decreases-loop-word
decreases-loop-word l = length (words_behind l.rest)
