use Rattle.std.proofs.Common.{refl}
use Rattle.bp_text.proofs.Puts.{puts_first, puts_last}
use Rattle.bp_picture.specs.PictureText.{grid_line, level_line}
use Rattle.bp_picture.proofs.lines.put_grid_line.Goals as goal

pub returns-in_err-put_upright-clause-text : goal.returns-in_err-put_upright-clause-text
unfolding grid_line
returns-in_err-put_upright-clause-text g c =
    puts_first (level_line c.args.side c.args.k) _ _ _ _ _ _ c.from_residual.ensures.0 c.in_err-put_upright.ensures.text (refl)

pub returns-clause-text : goal.returns-clause-text
unfolding grid_line
returns-clause-text g c =
    puts_last _ _ _ _ _ _ _ c.in_ok-put_upright.ensures.text.all c.put_level.ensures.text (refl)
