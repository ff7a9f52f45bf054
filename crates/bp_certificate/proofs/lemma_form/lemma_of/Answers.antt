use Rattle.std.proofs.Common.{MatchOption, Ok, subst}
use Rattle.bp_document.specs.Words.{words, words_behind}
use Rattle.bp_certificate.specs.Words.{AreFacts, AreNoFacts, ReadsHints}
use Rattle.bp_certificate.proofs.LineForms.{no_hints}
use Rattle.bp_certificate.proofs.lemma_form.lemma_of.Goals as goal

pub returns-in_default-2 : goal.returns-in_default-2
returns-in_default-2 c =
    no_hints (words c.args.bytes.now) _ _ c.in-Some.facts (words_behind c.in-Some.rest.now) c.split_word.ensures
    (subst (λ o. MatchOption o (AreNoFacts (words_behind c.split_word.result.1.now)) (λ parts. AreFacts (words_behind c.split_word.result.1.now) parts.0 (words_behind parts.1.now))) c.in-Some.is c.in_ok-facts.ensures)
    (subst (λ o. ReadsHints (words_behind c.in-Some.rest.now) (Ok o)) c.in_default-2.is c.in_ok-hints.ensures)
