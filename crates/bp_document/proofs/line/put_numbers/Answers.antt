use Rattle.bp_text.proofs.Puts.{loop_exit, loop_all, puts_same}
use Rattle.bp_document.proofs.Words.{spaced, all_spaced}
use Rattle.bp_document.proofs.line.put_numbers.Goals as goal

pub returns-in_err-put_spaced-clause-text : goal.returns-in_err-put_spaced-clause-text
returns-in_err-put_spaced-clause-text g c =
    puts_same _ _ _ _ _ (loop_exit spaced _ _ _ _ _ c.args.numbers.now c.loop-number.number-index _ c.loop-number-test.true c.from_residual.ensures.0 c.loop-number.invariant.0 c.in_err-put_spaced.ensures.text) (all_spaced c.args.numbers.now)

pub returns-clause-text : goal.returns-clause-text
returns-clause-text g c =
    puts_same _ _ _ _ _ (loop_all spaced _ _ _ c.args.numbers.now c.loop-number.number-index c.loop-number-test.false c.loop-number.invariant.0) (all_spaced c.args.numbers.now)
