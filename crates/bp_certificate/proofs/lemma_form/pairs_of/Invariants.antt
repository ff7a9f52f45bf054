use Rattle.std.proofs.Common.{length}
use Rattle.bp_document.specs.Words.{words_behind}
use Rattle.bp_certificate.proofs.WordLists.{PairsRead}
use Rattle.bp_certificate.proofs.lemma_form.pairs_of.Given as goal

abbrev pub invariant-loop-first : goal.invariant-loop-first
invariant-loop-first l = PairsRead (words_behind l.bytes) l.pairs (words_behind l.rest)

abbrev pub decreases-loop-first : goal.decreases-loop-first
decreases-loop-first l = length (words_behind l.rest)
