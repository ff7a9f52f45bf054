use Rattle.std.proofs.Common.{refl}
use Rattle.std.specs.List.{flat_map}
use Rattle.bp_text.proofs.Puts.{puts_first, puts_last}
use Rattle.bp_certificate.specs.Lines.{swap_line}
use Rattle.bp_certificate.specs.Text.{swap_lines}
use Rattle.bp_certificate.proofs.write.put_swaps.Goals as goal

pub returns-in_err-put_field-clause-text : goal.returns-in_err-put_field-clause-text
unfolding swap_lines
returns-in_err-put_field-clause-text g c =
    puts_first (flat_map swap_line c.args.swaps.now) _ _ _ _ _ _ c.from_residual.ensures.0 c.in_err-put_field.ensures.text refl

pub returns-clause-text : goal.returns-clause-text
unfolding swap_lines
returns-clause-text g c = puts_last _ _ _ _ _ _ _ c.in_ok-put_field.ensures.text.all c.put_each_swap.ensures.text refl
