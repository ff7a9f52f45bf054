use Rattle.std.proofs.Common.{◌++◌, append_assoc}
use Rattle.bp_text.proofs.Puts.{puts_first, puts_exit, puts_last, writes_more}
use Rattle.bp_picture.specs.PictureText.{border_text, grid_text, hinges_text, lines_text}
use Rattle.bp_picture.proofs.lines.put_lines.Goals as goal

pub returns-in_err-put_lines_head-clause-text : goal.returns-in_err-put_lines_head-clause-text
unfolding lines_text
returns-in_err-put_lines_head-clause-text g c =
    puts_first (grid_text c.args.side ++ (hinges_text c.args.side c.args.outlines.now ++ (border_text c.args.side))) _ _ _ _ _ _ c.from_residual.ensures.0 c.in_err-put_lines_head.ensures.text (simp append_assoc)

pub returns-in_err-put_grid-clause-text : goal.returns-in_err-put_grid-clause-text
unfolding lines_text
returns-in_err-put_grid-clause-text g c =
    puts_exit (hinges_text c.args.side c.args.outlines.now ++ (border_text c.args.side)) _ _ _ _ _ _ _ _ c.from_residual-in_err-put_grid.ensures.0 c.in_ok-put_lines_head.ensures.text.all c.in_err-put_grid.ensures.text (simp append_assoc)

pub returns-in_err-put_hinges-clause-text : goal.returns-in_err-put_hinges-clause-text
unfolding lines_text
returns-in_err-put_hinges-clause-text g c =
    puts_exit (border_text c.args.side) _ _ _ _ _ _ _ _ c.from_residual-in_err-put_hinges.ensures.0 (writes_more _ _ _ _ _ _ c.in_ok-put_lines_head.ensures.text.all c.in_ok-put_grid.ensures.text) c.in_err-put_hinges.ensures.text (simp append_assoc)

pub returns-clause-text : goal.returns-clause-text
unfolding lines_text
returns-clause-text g c =
    puts_last _ _ _ _ _ _ _ (writes_more _ _ _ _ _ _ (writes_more _ _ _ _ _ _ c.in_ok-put_lines_head.ensures.text.all c.in_ok-put_grid.ensures.text) c.in_ok-put_hinges.ensures.text) c.put_border.ensures.text (simp append_assoc)
