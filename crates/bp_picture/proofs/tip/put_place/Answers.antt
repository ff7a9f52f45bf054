use Rattle.std.proofs.Common.{codes, decimal}
use Rattle.bp_picture.specs.PictureText.{place_text}
use Rattle.bp_picture.proofs.Parts.{puts_five}
use Rattle.bp_picture.proofs.tip.put_place.Goals as goal

pub returns-clause-text : goal.returns-clause-text
unfolding place_text
returns-clause-text g c = puts_five _ _ _ (codes "<text x=\"") (decimal c.args.label.middle) (codes "\" y=\"") (decimal c.args.label.line) (codes "\"") c.of.result.now c.of-2.result.now c.of.ensures c.of-2.ensures c.put_parts.ensures.text
