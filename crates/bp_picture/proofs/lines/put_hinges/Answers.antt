use Rattle.std.proofs.Common.{◌++◌, append_assoc}
use Rattle.bp_text.proofs.Puts.{puts_first, puts_exit, puts_last, writes_more}
use Rattle.std.specs.List.{flat_map}
use Rattle.bp_picture.specs.declared.outline.Outline.{Outline}
use Rattle.bp_picture.specs.PictureText.{hinges_text, outline_text, path_last}
use Rattle.bp_picture.proofs.lines.put_hinges.Goals as goal

pub returns-in_err-put_hinges_head-clause-text : goal.returns-in_err-put_hinges_head-clause-text
unfolding hinges_text
returns-in_err-put_hinges_head-clause-text g c =
    puts_first (flat_map (λ (o : Outline). outline_text c.args.side o.loops) c.args.outlines.now ++ (path_last)) _ _ _ _ _ _ c.from_residual.ensures.0 c.in_err-put_hinges_head.ensures.text (simp append_assoc)

pub returns-in_err-put_outlines-clause-text : goal.returns-in_err-put_outlines-clause-text
unfolding hinges_text
returns-in_err-put_outlines-clause-text g c =
    puts_exit (path_last) _ _ _ _ _ _ _ _ c.from_residual-in_err-put_outlines.ensures.0 c.in_ok-put_hinges_head.ensures.text.all c.in_err-put_outlines.ensures.text (simp append_assoc)

pub returns-clause-text : goal.returns-clause-text
unfolding hinges_text
returns-clause-text g c =
    puts_last _ _ _ _ _ _ _ (writes_more _ _ _ _ _ _ c.in_ok-put_hinges_head.ensures.text.all c.in_ok-put_outlines.ensures.text) c.put_path_last.ensures.text (simp append_assoc)
