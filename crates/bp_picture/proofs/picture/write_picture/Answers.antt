use Rattle.std.proofs.Common.{List, ap, append_assoc, refl, sym, ◌++◌}
use Rattle.bp_text.proofs.Puts.{puts_exit, puts_first, puts_last, puts_same, writes_more}
use Rattle.bp_base.specs.declared.point.Point.{Point}
use Rattle.bp_base.specs.Tree.{TreeValue}
use Rattle.bp_picture.specs.PictureText.{lines_text, picture_text, regions_text, start_text, tips_text}
use Rattle.bp_picture.proofs.Parts.{four}
use Rattle.bp_picture.proofs.picture.write_picture.Goals as goal

pub returns-in_err-put_start-clause-text : goal.returns-in_err-put_start-clause-text
unfolding picture_text
returns-in_err-put_start-clause-text g c =
    let S = c.args.placement.now.side in let D = c.args.metric.now.tree in
    puts_first ((regions_text D S c.args.outlines.now) ++ ((lines_text S c.args.outlines.now) ++ (tips_text D S c.args.placement.now.points))) _ _ _ _ _ _ c.from_residual.ensures.0 c.in_err-put_start.ensures.text (four (start_text S c.args.bound) (regions_text D S c.args.outlines.now) (lines_text S c.args.outlines.now) (tips_text D S c.args.placement.now.points))

pub returns-in_err-put_regions-clause-text : goal.returns-in_err-put_regions-clause-text
unfolding picture_text
returns-in_err-put_regions-clause-text g c =
    let S = c.args.placement.now.side in let D = c.args.metric.now.tree in
    puts_exit ((lines_text S c.args.outlines.now) ++ (tips_text D S c.args.placement.now.points)) _ _ _ _ _ _ _ _ c.from_residual-in_err-put_regions.ensures.0 c.in_ok-put_start.ensures.text.all (puts_same _ _ _ _ (regions_text D S c.args.outlines.now) c.in_err-put_regions.ensures.text (ap (λ (U : TreeValue). regions_text U S c.args.outlines.now) (sym c.tree.ensures.tree))) (four (start_text S c.args.bound) (regions_text D S c.args.outlines.now) (lines_text S c.args.outlines.now) (tips_text D S c.args.placement.now.points))

pub returns-in_err-put_lines-clause-text : goal.returns-in_err-put_lines-clause-text
unfolding picture_text
returns-in_err-put_lines-clause-text g c =
    let S = c.args.placement.now.side in let D = c.args.metric.now.tree in
    puts_exit (tips_text D S c.args.placement.now.points) _ _ _ _ _ _ _ _ c.from_residual-in_err-put_lines.ensures.0 (writes_more _ _ _ _ _ _ c.in_ok-put_start.ensures.text.all (puts_same _ _ _ _ (regions_text D S c.args.outlines.now) c.in_ok-put_regions.ensures.text (ap (λ (U : TreeValue). regions_text U S c.args.outlines.now) (sym c.tree.ensures.tree)))) c.in_err-put_lines.ensures.text (append_assoc ((start_text S c.args.bound) ++ (regions_text D S c.args.outlines.now)) (lines_text S c.args.outlines.now) (tips_text D S c.args.placement.now.points))

pub returns-clause-text : goal.returns-clause-text
unfolding picture_text
returns-clause-text g c =
    let S = c.args.placement.now.side in let D = c.args.metric.now.tree in
    puts_last _ _ _ _ _ _ _ (writes_more _ _ _ _ _ _ (writes_more _ _ _ _ _ _ c.in_ok-put_start.ensures.text.all (puts_same _ _ _ _ (regions_text D S c.args.outlines.now) c.in_ok-put_regions.ensures.text (ap (λ (U : TreeValue). regions_text U S c.args.outlines.now) (sym c.tree.ensures.tree)))) c.in_ok-put_lines.ensures.text) (puts_same _ _ _ _ (tips_text D S c.args.placement.now.points) c.put_tips.ensures.text (ap (λ (P : List Point). tips_text D S P) (sym c.as_slice.ensures))) (refl)
