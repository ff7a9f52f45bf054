use Rattle.std.proofs.Common.{length}
use Rattle.bp_document.specs.Words.{words_behind}
use Rattle.bp_certificate.proofs.WordLists.{HintsRead}
use Rattle.bp_certificate.proofs.lemma_form.hints_of.Given as goal

abbrev pub invariant-loop-word : goal.invariant-loop-word
invariant-loop-word l = HintsRead (words_behind l.bytes) l.hints (words_behind l.rest)

abbrev pub decreases-loop-word : goal.decreases-loop-word
decreases-loop-word l = length (words_behind l.rest)
