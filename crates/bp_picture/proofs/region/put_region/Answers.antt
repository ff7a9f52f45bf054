use Rattle.std.proofs.Common.{ap, append_assoc, refl, sym, ◌++◌}
use Rattle.bp_text.proofs.Puts.{puts_exit, puts_first, puts_last, puts_same, writes_more}
use Rattle.bp_base.specs.Tree.{name_of}
use Rattle.bp_picture.specs.Fills.{fill_of}
use Rattle.bp_picture.specs.PictureText.{outline_text, region_head, region_last, region_text}
use Rattle.bp_picture.proofs.region.put_region.Goals as goal

pub returns-in_err-put_region_head-clause-text : goal.returns-in_err-put_region_head-clause-text
unfolding region_text
returns-in_err-put_region_head-clause-text g c =
    puts_first ((outline_text c.args.side c.args.loops.now) ++ (region_last (name_of c.args.tree.now c.args.edge))) _ _ _ _ _ _ c.from_residual.ensures.0 (puts_same _ _ _ _ (region_head (fill_of c.args.tree.now c.args.edge)) c.in_err-put_region_head.ensures.text (ap region_head (sym c.fill_of.ensures))) (append_assoc (region_head (fill_of c.args.tree.now c.args.edge)) (outline_text c.args.side c.args.loops.now) (region_last (name_of c.args.tree.now c.args.edge)))

pub returns-in_err-put_outline-clause-text : goal.returns-in_err-put_outline-clause-text
unfolding region_text
returns-in_err-put_outline-clause-text g c =
    puts_exit (region_last (name_of c.args.tree.now c.args.edge)) _ _ _ _ _ _ _ _ c.from_residual-in_err-put_outline.ensures.0 (puts_same _ _ _ _ (region_head (fill_of c.args.tree.now c.args.edge)) c.in_ok-put_region_head.ensures.text (ap region_head (sym c.fill_of.ensures))).all c.in_err-put_outline.ensures.text (append_assoc (region_head (fill_of c.args.tree.now c.args.edge)) (outline_text c.args.side c.args.loops.now) (region_last (name_of c.args.tree.now c.args.edge)))

pub returns-clause-text : goal.returns-clause-text
unfolding region_text
returns-clause-text g c =
    puts_last _ _ _ _ _ _ _ (writes_more _ _ _ _ _ _ (puts_same _ _ _ _ (region_head (fill_of c.args.tree.now c.args.edge)) c.in_ok-put_region_head.ensures.text (ap region_head (sym c.fill_of.ensures))).all c.in_ok-put_outline.ensures.text) (puts_same _ _ _ _ (region_last (name_of c.args.tree.now c.args.edge)) c.put_region_last.ensures.text (ap region_last (sym c.name_at-name.ensures))) (refl)
