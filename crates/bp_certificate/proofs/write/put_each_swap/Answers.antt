use Rattle.std.proofs.Common.{◌∙◌}
use Rattle.bp_text.proofs.Puts.{loop_exit}
use Rattle.bp_certificate.specs.Lines.{swap_line}
use Rattle.bp_certificate.proofs.Parts.{puts_at}
use Rattle.bp_certificate.proofs.write.put_each_swap.Goals as goal

pub returns-in_err-put_swap-clause-text : goal.returns-in_err-put_swap-clause-text
returns-in_err-put_swap-clause-text g c =
    loop_exit swap_line _ _ _ _ _ c.args.swaps.now c.loop-swap.swap-index c.swap-item.result c.loop-swap-test.true c.from_residual.ensures.0 c.loop-swap.invariant.0
    (puts_at swap_line _ _ _ _ _ (c.as_slice.ensures ∙ c.swap-item.is) c.in_err-put_swap.ensures.text)
