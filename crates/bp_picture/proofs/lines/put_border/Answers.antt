use Rattle.std.proofs.Common.{◌++◌, ◌*◌, codes, append_assoc}
use Rattle.bp_text.proofs.Puts.{puts_first, puts_exit, puts_last, writes_more}
use Rattle.bp_picture.specs.PictureText.{border_text, thousandths}
use Rattle.bp_picture.proofs.lines.put_border.Goals as goal

pub returns-in_err-put_border_size-clause-text : goal.returns-in_err-put_border_size-clause-text
unfolding border_text
returns-in_err-put_border_size-clause-text g c =
    puts_first (thousandths (4 * c.args.side) ++ (codes "\"/>\n</g>\n</g>\n")) _ _ _ _ _ _ c.from_residual.ensures.0 c.in_err-put_border_size.ensures.text (simp append_assoc)

pub returns-in_err-put_thousandths-clause-text : goal.returns-in_err-put_thousandths-clause-text
unfolding border_text
returns-in_err-put_thousandths-clause-text g c =
    puts_exit (codes "\"/>\n</g>\n</g>\n") _ _ _ _ _ _ _ _ c.from_residual-in_err-put_thousandths.ensures.0 c.in_ok-put_border_size.ensures.text.all c.in_err-put_thousandths.ensures.text (simp append_assoc)

pub returns-clause-text : goal.returns-clause-text
unfolding border_text
returns-clause-text g c =
    puts_last _ _ _ _ _ _ _ (writes_more _ _ _ _ _ _ c.in_ok-put_border_size.ensures.text.all c.in_ok-put_thousandths.ensures.text) c.put.ensures.text (simp append_assoc)
