use Rattle.std.proofs.Common.{map, refl}
use Rattle.bp_text.proofs.Puts.{puts_first, puts_last}
use Rattle.bp_fold.specs.FoldText.{commas, point_text}
use Rattle.bp_fold.proofs.writing.put_head.Goals as goal

pub returns-in_err-put_start-clause-text : goal.returns-in_err-put_start-clause-text
returns-in_err-put_start-clause-text g c =
    puts_first (commas (map point_text c.args.vertices.now)) _ _ _ _ _ _ c.from_residual.ensures.0 c.in_err-put_start.ensures.text refl

pub returns-clause-text : goal.returns-clause-text
returns-clause-text g c = puts_last _ _ _ _ _ _ _ c.in_ok-put_start.ensures.text.all c.put_points.ensures.text refl
