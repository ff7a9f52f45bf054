use Rattle.std.proofs.Common.{List, sym, ◌∙◌, subst, arith}
use Rattle.std.proofs.lemmas.Bool.{false≢true}
use Rattle.std.proofs.lemmas.Slice.Eq.{bytes_eq-Decides}
use Rattle.bp_arrangement.specs.declared.fact.Fact.{Fact}
use Rattle.bp_document.specs.Words.{words_behind}
use Rattle.bp_certificate.specs.Lines.{fact_word}
use Rattle.bp_certificate.specs.Ranges.{IsSmallFact, most_facts}
use Rattle.bp_certificate.proofs.WordLists.{FactsRead, no_fact, no_by, read_more, too_many_facts}
use Rattle.bp_certificate.proofs.lemma_form.facts_of.Goals as goal

pub returns-in_default-fact_of : goal.returns-in_default-fact_of
returns-in_default-fact_of c =
    no_fact (words_behind c.args.bytes.now) c.loop-word.facts (words_behind c.loop-word.rest.now) c.loop-word.invariant (words_behind c.in-Some.more.now) c.in-Some.word.now c.in-Some.ensures
    (λ same. false≢true (sym c.if-eq.false ∙ c.eq.ensures ∙ (bytes_eq-Decides c.in-Some.word.now c.as_slice.result.now).1 (same ∙ sym c.as_slice.ensures)))
    c.in_default-fact_of.ensures

pub returns-then-len-eq-MOST_FACTS : goal.returns-then-len-eq-MOST_FACTS
returns-then-len-eq-MOST_FACTS c =
    too_many_facts (words_behind c.args.bytes.now) c.loop-word.facts (words_behind c.loop-word.rest.now) c.loop-word.invariant (words_behind c.in-Some.more.now) c.in-Some.word.now c.in-Some.ensures
    (λ same. false≢true (sym c.if-eq.false ∙ c.eq.ensures ∙ (bytes_eq-Decides c.in-Some.word.now c.as_slice.result.now).1 (same ∙ sym c.as_slice.ensures)))
    (omega (arith, c.len.ensures, c.if-len-eq-MOST_FACTS.true))

pub loop-word-preserved : goal.loop-word-preserved
loop-word-preserved c =
    subst (λ (fs : List Fact). FactsRead (words_behind c.args.bytes.now) fs (words_behind c.in-Some.more.now)) (sym c.in_ok-push.ensures.ok)
    (read_more Fact fact_word IsSmallFact most_facts (words_behind c.args.bytes.now) c.loop-word.facts (words_behind c.loop-word.rest.now) (words_behind c.in-Some.more.now) c.in-Some.word.now c.in-Some-fact_of.fact c.loop-word.invariant c.in-Some.ensures c.in-Some-fact_of.ensures.0 c.in-Some-fact_of.ensures.1
    (omega (arith, c.len.ensures, c.if-len-eq-MOST_FACTS.false, c.loop-word.invariant.few)))

pub returns : goal.returns
returns c = no_by (words_behind c.args.bytes.now) c.loop-word.facts (words_behind c.loop-word.rest.now) c.loop-word.invariant c.in_default.ensures
