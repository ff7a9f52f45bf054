use Rattle.std.proofs.Common.{codes, decimal}
use Rattle.bp_picture.specs.PictureText.{dot_text}
use Rattle.bp_picture.proofs.Parts.{puts_seven}
use Rattle.bp_picture.proofs.tip.put_dot.Goals as goal

pub returns-clause-text : goal.returns-clause-text
unfolding dot_text
returns-clause-text g c = puts_seven _ _ _ (codes "<circle cx=\"") (decimal c.args.label.x) (codes "\" cy=\"") (decimal c.args.label.y) (codes "\" r=\"") (decimal c.args.label.dot) (codes "\"/>") c.of.result.now c.of-2.result.now c.of-3.result.now c.of.ensures c.of-2.ensures c.of-3.ensures c.put_parts.ensures.text
