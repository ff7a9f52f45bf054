use Rattle.bp_text.proofs.Puts.{loop_exit, loop_all, puts_same}
use Rattle.bp_certificate.proofs.Parts.{spaced_hint, all_hints}
use Rattle.bp_certificate.proofs.line.put_hints.Goals as goal

pub returns-in_err-put_hint-clause-text : goal.returns-in_err-put_hint-clause-text
returns-in_err-put_hint-clause-text g c =
    puts_same _ _ _ _ _ (loop_exit spaced_hint _ _ _ _ _ c.args.hints.now c.loop-hint.hint-index _ c.loop-hint-test.true c.from_residual.ensures.0 c.loop-hint.invariant.0 c.in_err-put_hint.ensures.text) (all_hints c.args.hints.now)

pub returns-clause-text : goal.returns-clause-text
returns-clause-text g c =
    puts_same _ _ _ _ _ (loop_all spaced_hint _ _ _ c.args.hints.now c.loop-hint.hint-index c.loop-hint-test.false c.loop-hint.invariant.0) (all_hints c.args.hints.now)
