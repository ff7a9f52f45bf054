use Rattle.std.proofs.Common.{arith, sym, ap, ◌∙◌}
use Rattle.std.proofs.lemmas.Bool.{eqb-true, eqb-false}
use Rattle.std.proofs.lemmas.List.{nil_from_length}
use Rattle.std.proofs.Math.Nat.{pos_of_ne-zero}
use Rattle.bp_tree.specs.Lines.{words}
use Rattle.bp_tree.proofs.WordLists.{words_none, first_word, only_word}
use Rattle.bp_tree.proofs.words.next_word.Goals as goal

pub returns-then-is_empty : goal.returns-then-is_empty
returns-then-is_empty c =
    let none = nil_from_length c.without_blanks-bytes.result.now (eqb-true _ 0 (sym c.if-is_empty.ensures)) in
    sym c.without_blanks-bytes.ensures.words ∙ ap words none ∙ words_none

pub returns-then-is_blank : goal.returns-then-is_blank
returns-then-is_blank c = first_word c.args.bytes.now c.without_blanks-bytes.result.now c.loop-at.at c.without_blanks-bytes.ensures.words c.without_blanks-bytes.ensures.first c.loop-at-test.true c.loop-at.invariant (sym c.is_blank.ensures ∙ c.if-is_blank.true)

pub returns : goal.returns
returns c =
    let some = pos_of_ne-zero (eqb-false _ 0 (sym c.if-is_empty.ensures)) in
    only_word c.args.bytes.now c.without_blanks-bytes.result.now c.without_blanks-bytes.ensures.words some (λ k less. c.loop-at.invariant k (omega (arith, c.loop-at-test.false)))
