use Rattle.std.proofs.Common.{append_assoc, codes, refl, ◌++◌}
use Rattle.bp_text.proofs.Puts.{puts_exit, puts_first, puts_last, writes_more}
use Rattle.bp_picture.specs.PictureText.{fill_text, region_head}
use Rattle.bp_picture.proofs.region.put_region_head.Goals as goal

pub returns-in_err-put-clause-text : goal.returns-in_err-put-clause-text
unfolding region_head
returns-in_err-put-clause-text g c =
    puts_first ((fill_text c.args.fill) ++ (codes "\" fill-rule=\"evenodd\" d=\"")) _ _ _ _ _ _ c.from_residual.ensures.0 c.in_err-put.ensures.text (append_assoc (codes "<path fill=\"") (fill_text c.args.fill) (codes "\" fill-rule=\"evenodd\" d=\""))

pub returns-in_err-put_fill-clause-text : goal.returns-in_err-put_fill-clause-text
unfolding region_head
returns-in_err-put_fill-clause-text g c =
    puts_exit (codes "\" fill-rule=\"evenodd\" d=\"") _ _ _ _ _ _ _ _ c.from_residual-in_err-put_fill.ensures.0 c.in_ok-put.ensures.text.all c.in_err-put_fill.ensures.text (append_assoc (codes "<path fill=\"") (fill_text c.args.fill) (codes "\" fill-rule=\"evenodd\" d=\""))

pub returns-clause-text : goal.returns-clause-text
unfolding region_head
returns-clause-text g c =
    puts_last _ _ _ _ _ _ _ (writes_more _ _ _ _ _ _ c.in_ok-put.ensures.text.all c.in_ok-put_fill.ensures.text) c.put-2.ensures.text (refl)
