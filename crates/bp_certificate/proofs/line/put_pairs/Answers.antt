use Rattle.bp_text.proofs.Puts.{loop_exit, loop_all, puts_same}
use Rattle.bp_certificate.proofs.Parts.{spaced_pair, all_pairs}
use Rattle.bp_certificate.proofs.line.put_pairs.Goals as goal

pub returns-in_err-put_two-clause-text : goal.returns-in_err-put_two-clause-text
returns-in_err-put_two-clause-text g c =
    puts_same _ _ _ _ _ (loop_exit spaced_pair _ _ _ _ _ c.args.swap.now c.loop-pair.pair-index _ c.loop-pair-test.true c.from_residual.ensures.0 c.loop-pair.invariant.0 c.in_err-put_two.ensures.text) (all_pairs c.args.swap.now)

pub returns-clause-text : goal.returns-clause-text
returns-clause-text g c =
    puts_same _ _ _ _ _ (loop_all spaced_pair _ _ _ c.args.swap.now c.loop-pair.pair-index c.loop-pair-test.false c.loop-pair.invariant.0) (all_pairs c.args.swap.now)
