use Rattle.std.proofs.Common.{List, sym, subst, arith}
use Rattle.bp_arrangement.specs.declared.fact.Hint.{Hint}
use Rattle.bp_document.specs.Words.{words_behind}
use Rattle.bp_certificate.specs.Lines.{hint_word}
use Rattle.bp_certificate.specs.Ranges.{IsSmallHint, most_hints}
use Rattle.bp_certificate.proofs.WordLists.{HintsRead, no_hint, read_more, too_many_hints}
use Rattle.bp_certificate.proofs.lemma_form.hints_of.Goals as goal

pub returns-in_default-hint_of : goal.returns-in_default-hint_of
returns-in_default-hint_of c =
    no_hint (words_behind c.args.bytes.now) c.loop-word.hints (words_behind c.loop-word.rest.now) c.loop-word.invariant (words_behind c.in-Some.more.now) c.in-Some.word.now c.in-Some.ensures c.in_default-hint_of.ensures

pub returns-then-len-eq-MOST_HINTS : goal.returns-then-len-eq-MOST_HINTS
returns-then-len-eq-MOST_HINTS c =
    too_many_hints (words_behind c.args.bytes.now) c.loop-word.hints (words_behind c.loop-word.rest.now) c.loop-word.invariant (words_behind c.in-Some.more.now) c.in-Some.word.now c.in-Some.ensures
    (omega (arith, c.len.ensures, c.if-len-eq-MOST_HINTS.true))

pub loop-word-preserved : goal.loop-word-preserved
loop-word-preserved c =
    subst (λ (hs : List Hint). HintsRead (words_behind c.args.bytes.now) hs (words_behind c.in-Some.more.now)) (sym c.in_ok-push.ensures.ok)
    (read_more Hint hint_word IsSmallHint most_hints (words_behind c.args.bytes.now) c.loop-word.hints (words_behind c.loop-word.rest.now) (words_behind c.in-Some.more.now) c.in-Some.word.now c.in-Some-hint_of.hint c.loop-word.invariant c.in-Some.ensures c.in-Some-hint_of.ensures.0 c.in-Some-hint_of.ensures.1
    (omega (arith, c.len.ensures, c.if-len-eq-MOST_HINTS.false, c.loop-word.invariant.few)))
