use Rattle.std.proofs.Common.{append_assoc, refl, ◌++◌, ◌-◌}
use Rattle.bp_text.proofs.Puts.{puts_exit, puts_first, puts_last, writes_more}
use Rattle.std.specs.List.{flat_map, range_with_len}
use Rattle.bp_picture.specs.PictureText.{grid_head, grid_line, grid_path, path_last}
use Rattle.bp_picture.proofs.lines.put_grid_path.Goals as goal

pub returns-in_err-put_grid_head-clause-text : goal.returns-in_err-put_grid_head-clause-text
unfolding grid_path
returns-in_err-put_grid_head-clause-text g c =
    puts_first ((flat_map (grid_line c.args.side) (range_with_len 1 (c.args.side - 1))) ++ (path_last)) _ _ _ _ _ _ c.from_residual.ensures.0 c.in_err-put_grid_head.ensures.text (append_assoc (grid_head c.args.side) (flat_map (grid_line c.args.side) (range_with_len 1 (c.args.side - 1))) (path_last))

pub returns-in_err-put_grid_lines-clause-text : goal.returns-in_err-put_grid_lines-clause-text
unfolding grid_path
returns-in_err-put_grid_lines-clause-text g c =
    puts_exit (path_last) _ _ _ _ _ _ _ _ c.from_residual-in_err-put_grid_lines.ensures.0 c.in_ok-put_grid_head.ensures.text.all c.in_err-put_grid_lines.ensures.text (append_assoc (grid_head c.args.side) (flat_map (grid_line c.args.side) (range_with_len 1 (c.args.side - 1))) (path_last))

pub returns-clause-text : goal.returns-clause-text
unfolding grid_path
returns-clause-text g c =
    puts_last _ _ _ _ _ _ _ (writes_more _ _ _ _ _ _ c.in_ok-put_grid_head.ensures.text.all c.in_ok-put_grid_lines.ensures.text) c.put_path_last.ensures.text (refl)
