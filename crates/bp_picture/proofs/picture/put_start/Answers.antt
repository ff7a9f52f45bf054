use Rattle.std.proofs.Common.{append_assoc, refl, ◌++◌}
use Rattle.bp_text.proofs.Puts.{puts_exit, puts_first, puts_last, writes_more}
use Rattle.bp_picture.specs.PictureText.{frame_text, paper_text, start_text, title_text}
use Rattle.bp_picture.proofs.picture.put_start.Goals as goal

pub returns-in_err-put_frame-clause-text : goal.returns-in_err-put_frame-clause-text
unfolding start_text
returns-in_err-put_frame-clause-text g c =
    puts_first ((title_text c.args.side c.args.bound) ++ (paper_text c.args.side)) _ _ _ _ _ _ c.from_residual.ensures.0 c.in_err-put_frame.ensures.text (append_assoc (frame_text c.args.side) (title_text c.args.side c.args.bound) (paper_text c.args.side))

pub returns-in_err-put_title-clause-text : goal.returns-in_err-put_title-clause-text
unfolding start_text
returns-in_err-put_title-clause-text g c =
    puts_exit (paper_text c.args.side) _ _ _ _ _ _ _ _ c.from_residual-in_err-put_title.ensures.0 c.in_ok-put_frame.ensures.text.all c.in_err-put_title.ensures.text (append_assoc (frame_text c.args.side) (title_text c.args.side c.args.bound) (paper_text c.args.side))

pub returns-clause-text : goal.returns-clause-text
unfolding start_text
returns-clause-text g c =
    puts_last _ _ _ _ _ _ _ (writes_more _ _ _ _ _ _ c.in_ok-put_frame.ensures.text.all c.in_ok-put_title.ensures.text) c.put_paper.ensures.text (refl)
