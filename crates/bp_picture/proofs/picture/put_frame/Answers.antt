use Rattle.std.proofs.Common.{append_assoc, refl, ◌++◌}
use Rattle.bp_text.proofs.Puts.{puts_exit, puts_first, puts_last, writes_more}
use Rattle.bp_picture.specs.PictureText.{corner_text, extent_text, frame_text, size_text}
use Rattle.bp_picture.proofs.picture.put_frame.Goals as goal

pub returns-in_err-put_size-clause-text : goal.returns-in_err-put_size-clause-text
unfolding frame_text
returns-in_err-put_size-clause-text g c =
    puts_first ((corner_text c.args.side) ++ (extent_text c.args.side)) _ _ _ _ _ _ c.from_residual.ensures.0 c.in_err-put_size.ensures.text (append_assoc (size_text c.args.side) (corner_text c.args.side) (extent_text c.args.side))

pub returns-in_err-put_corner-clause-text : goal.returns-in_err-put_corner-clause-text
unfolding frame_text
returns-in_err-put_corner-clause-text g c =
    puts_exit (extent_text c.args.side) _ _ _ _ _ _ _ _ c.from_residual-in_err-put_corner.ensures.0 c.in_ok-put_size.ensures.text.all c.in_err-put_corner.ensures.text (append_assoc (size_text c.args.side) (corner_text c.args.side) (extent_text c.args.side))

pub returns-clause-text : goal.returns-clause-text
unfolding frame_text
returns-clause-text g c =
    puts_last _ _ _ _ _ _ _ (writes_more _ _ _ _ _ _ c.in_ok-put_size.ensures.text.all c.in_ok-put_corner.ensures.text) c.put_extent.ensures.text (refl)
