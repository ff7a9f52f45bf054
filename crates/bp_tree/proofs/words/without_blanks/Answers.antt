use Rattle.std.proofs.Common.{arith, length, ap, ◌∙◌}
use Rattle.std.proofs.lemmas.List.{take_rest}
use Rattle.bp_tree.specs.Lines.{words}
use Rattle.bp_tree.proofs.WordLists.{words_blanks}
use Rattle.bp_tree.proofs.words.without_blanks.Goals as goal

pub returns-then-not-is_blank-clause-words : goal.returns-then-not-is_blank-clause-words
returns-then-not-is_blank-clause-words c =
    ap words (take_rest c.args.bytes.now c.loop-at.at) ∙ words_blanks c.args.bytes.now c.loop-at.at (omega arith) c.loop-at.invariant

pub returns-clause-words : goal.returns-clause-words
returns-clause-words c =
    ap words (take_rest c.args.bytes.now (length c.args.bytes.now)) ∙ words_blanks c.args.bytes.now (length c.args.bytes.now) (omega arith) (λ k less. c.loop-at.invariant k (omega (arith, c.loop-at-test.false)))
