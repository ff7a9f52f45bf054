use Rattle.std.proofs.Common.{◌++◌, codes, append_assoc}
use Rattle.bp_text.proofs.Puts.{puts_first, puts_exit, puts_last, writes_more}
use Rattle.bp_picture.specs.PictureText.{grid_head, thousandths}
use Rattle.bp_picture.proofs.lines.put_grid_head.Goals as goal

pub returns-in_err-put-clause-text : goal.returns-in_err-put-clause-text
unfolding grid_head
returns-in_err-put-clause-text g c =
    puts_first (thousandths c.args.side ++ (codes "\" d=\"")) _ _ _ _ _ _ c.from_residual.ensures.0 c.in_err-put.ensures.text (simp append_assoc)

pub returns-in_err-put_thousandths-clause-text : goal.returns-in_err-put_thousandths-clause-text
unfolding grid_head
returns-in_err-put_thousandths-clause-text g c =
    puts_exit (codes "\" d=\"") _ _ _ _ _ _ _ _ c.from_residual-in_err-put_thousandths.ensures.0 c.in_ok-put.ensures.text.all c.in_err-put_thousandths.ensures.text (simp append_assoc)

pub returns-clause-text : goal.returns-clause-text
unfolding grid_head
returns-clause-text g c =
    puts_last _ _ _ _ _ _ _ (writes_more _ _ _ _ _ _ c.in_ok-put.ensures.text.all c.in_ok-put_thousandths.ensures.text) c.put-2.ensures.text (simp append_assoc)
