use Rattle.std.proofs.Common.{◌++◌, append_assoc}
use Rattle.bp_text.proofs.Puts.{puts_first, puts_exit, puts_last, writes_more}
use Rattle.std.specs.List.{flat_map, range_with_len}
use Rattle.bp_base.specs.Tree.{leaf_count}
use Rattle.bp_picture.specs.PictureText.{last_text, tip_text, tips_text}
use Rattle.bp_picture.proofs.tip.put_tips.Goals as goal

pub returns-in_err-put_tips_head-clause-text : goal.returns-in_err-put_tips_head-clause-text
unfolding tips_text
returns-in_err-put_tips_head-clause-text g c =
    puts_first (flat_map (tip_text c.args.metric.now.tree c.args.side c.args.points.now) (range_with_len 1 (leaf_count c.args.metric.now.tree)) ++ (last_text)) _ _ _ _ _ _ c.from_residual.ensures.0 c.in_err-put_tips_head.ensures.text (simp append_assoc)

pub returns-in_err-put_each_tip-clause-text : goal.returns-in_err-put_each_tip-clause-text
unfolding tips_text
returns-in_err-put_each_tip-clause-text g c =
    puts_exit (last_text) _ _ _ _ _ _ _ _ c.from_residual-in_err-put_each_tip.ensures.0 c.in_ok-put_tips_head.ensures.text.all c.in_err-put_each_tip.ensures.text (simp append_assoc)

pub returns-clause-text : goal.returns-clause-text
unfolding tips_text
returns-clause-text g c =
    puts_last _ _ _ _ _ _ _ (writes_more _ _ _ _ _ _ c.in_ok-put_tips_head.ensures.text.all c.in_ok-put_each_tip.ensures.text) c.put_last.ensures.text (simp append_assoc)
