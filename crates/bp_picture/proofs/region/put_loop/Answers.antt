use Rattle.std.proofs.Common.{◌++◌, codes, append_assoc}
use Rattle.bp_text.proofs.Puts.{puts_first, puts_exit, puts_last, writes_more}
use Rattle.std.specs.List.{flat_map}
use Rattle.bp_picture.specs.PictureText.{loop_text, turn_text}
use Rattle.bp_picture.proofs.region.put_loop.Goals as goal

pub returns-in_err-put-clause-text : goal.returns-in_err-put-clause-text
unfolding loop_text
returns-in_err-put-clause-text g c =
    puts_first (flat_map (turn_text c.args.side) c.args.points.now ++ (codes "Z")) _ _ _ _ _ _ c.from_residual.ensures.0 c.in_err-put.ensures.text (simp append_assoc)

pub returns-in_err-put_turns-clause-text : goal.returns-in_err-put_turns-clause-text
unfolding loop_text
returns-in_err-put_turns-clause-text g c =
    puts_exit (codes "Z") _ _ _ _ _ _ _ _ c.from_residual-in_err-put_turns.ensures.0 c.in_ok-put.ensures.text.all c.in_err-put_turns.ensures.text (simp append_assoc)

pub returns-clause-text : goal.returns-clause-text
unfolding loop_text
returns-clause-text g c =
    puts_last _ _ _ _ _ _ _ (writes_more _ _ _ _ _ _ c.in_ok-put.ensures.text.all c.in_ok-put_turns.ensures.text) c.put-2.ensures.text (simp append_assoc)
