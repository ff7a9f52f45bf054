use Rattle.std.proofs.Common.{append_assoc, refl, ◌++◌}
use Rattle.bp_text.proofs.Puts.{puts_exit, puts_first, puts_last, writes_more}
use Rattle.bp_picture.specs.PictureText.{dot_text, label_text, name_text, place_text}
use Rattle.bp_picture.proofs.tip.put_label.Goals as goal

pub returns-in_err-put_dot-clause-text : goal.returns-in_err-put_dot-clause-text
unfolding label_text
returns-in_err-put_dot-clause-text g c =
    puts_first ((place_text c.args.label) ++ (name_text c.args.label.size c.args.name.now)) _ _ _ _ _ _ c.from_residual.ensures.0 c.in_err-put_dot.ensures.text (append_assoc (dot_text c.args.label) (place_text c.args.label) (name_text c.args.label.size c.args.name.now))

pub returns-in_err-put_place-clause-text : goal.returns-in_err-put_place-clause-text
unfolding label_text
returns-in_err-put_place-clause-text g c =
    puts_exit (name_text c.args.label.size c.args.name.now) _ _ _ _ _ _ _ _ c.from_residual-in_err-put_place.ensures.0 c.in_ok-put_dot.ensures.text.all c.in_err-put_place.ensures.text (append_assoc (dot_text c.args.label) (place_text c.args.label) (name_text c.args.label.size c.args.name.now))

pub returns-clause-text : goal.returns-clause-text
unfolding label_text
returns-clause-text g c =
    puts_last _ _ _ _ _ _ _ (writes_more _ _ _ _ _ _ c.in_ok-put_dot.ensures.text.all c.in_ok-put_place.ensures.text) c.put_name.ensures.text (refl)
