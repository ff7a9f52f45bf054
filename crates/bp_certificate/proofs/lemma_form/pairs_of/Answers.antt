use Rattle.std.proofs.Common.{◌∷◌, List, ℕ, sym, ◌∙◌, ap, subst, arith}
use Rattle.bp_base.specs.declared.path.Pair.{Pair}
use Rattle.bp_document.specs.Words.{words_behind}
use Rattle.bp_certificate.proofs.WordLists.{PairsRead, half_pair, no_pair, no_pairs, pair_more, too_many_pairs}
use Rattle.bp_certificate.proofs.lemma_form.pairs_of.Goals as goal

pub returns-in_default-next_word : goal.returns-in_default-next_word
returns-in_default-next_word c =
    half_pair (words_behind c.args.bytes.now) c.loop-first.pairs (words_behind c.loop-first.rest.now) c.loop-first.invariant c.in-Some.first.now
    (c.in-Some.ensures ∙ ap (λ (t : List (List ℕ)). c.in-Some.first.now ∷ t) c.in_default-next_word.ensures)

pub returns-in_default-pair_of_words : goal.returns-in_default-pair_of_words
returns-in_default-pair_of_words c =
    no_pair (words_behind c.args.bytes.now) c.loop-first.pairs (words_behind c.loop-first.rest.now) c.loop-first.invariant (words_behind c.in-Some-next_word.more.now) c.in-Some.first.now c.in-Some-next_word.second.now
    (c.in-Some.ensures ∙ ap (λ (t : List (List ℕ)). c.in-Some.first.now ∷ t) c.in-Some-next_word.ensures) c.in_default-pair_of_words.ensures

pub returns-then-len-eq-MOST_SWAP_PAIRS : goal.returns-then-len-eq-MOST_SWAP_PAIRS
returns-then-len-eq-MOST_SWAP_PAIRS c =
    too_many_pairs (words_behind c.args.bytes.now) c.loop-first.pairs (words_behind c.loop-first.rest.now) c.loop-first.invariant (words_behind c.in-Some-next_word.more.now) c.in-Some.first.now c.in-Some-next_word.second.now
    (c.in-Some.ensures ∙ ap (λ (t : List (List ℕ)). c.in-Some.first.now ∷ t) c.in-Some-next_word.ensures) (omega (arith, c.len.ensures, c.if-len-eq-MOST_SWAP_PAIRS.true))

pub loop-first-preserved : goal.loop-first-preserved
loop-first-preserved c =
    subst (λ (ps : List Pair). PairsRead (words_behind c.args.bytes.now) ps (words_behind c.in-Some-next_word.more.now)) (sym c.in_ok-push.ensures.ok)
    (pair_more (words_behind c.args.bytes.now) c.loop-first.pairs (words_behind c.loop-first.rest.now) c.loop-first.invariant (words_behind c.in-Some-next_word.more.now) c.in-Some.first.now c.in-Some-next_word.second.now c.in-Some-pair_of_words.pair
    (c.in-Some.ensures ∙ ap (λ (t : List (List ℕ)). c.in-Some.first.now ∷ t) c.in-Some-next_word.ensures) c.in-Some-pair_of_words.ensures
    (omega (arith, c.len.ensures, c.if-len-eq-MOST_SWAP_PAIRS.false, c.loop-first.invariant.few)))

pub returns-then-len-eq0 : goal.returns-then-len-eq0
returns-then-len-eq0 c =
    no_pairs (words_behind c.args.bytes.now) c.loop-first.pairs (words_behind c.loop-first.rest.now) c.loop-first.invariant c.in_default.ensures (omega (arith, c.len-2.ensures, c.if-len-eq0.true))
