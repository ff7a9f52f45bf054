use Rattle.std.proofs.Common.{List, sym, ap, ◌∙◌}
use Rattle.bp_picture.specs.declared.outline.Outline.{Outline}
use Rattle.bp_picture.specs.PictureText.{picture_text}
use Rattle.bp_picture.proofs.Unique.{one_outlines}
use Rattle.bp_picture.proofs.laws.one_picture.Goals as goal

pub returns : goal.returns
returns c = λ S bound P s t first second.
    let T = c.args.metric.now.tree in
    let same = one_outlines (record { tree = T; side = S; points = P }) (c.one_contours.ensures S P) first.0 second.0 first.1 second.1 in
    first.2 ∙ ap (λ (outlines : List Outline). picture_text T S bound P outlines) same ∙ sym second.2
