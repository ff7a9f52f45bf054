use Rattle.std.proofs.Common.{codes, decimal}
use Rattle.bp_picture.specs.PictureText.{border_size}
use Rattle.bp_picture.proofs.Parts.{puts_five}
use Rattle.bp_picture.proofs.lines.put_border_size.Goals as goal

pub returns-clause-text : goal.returns-clause-text
unfolding border_size
returns-clause-text g c = puts_five _ _ _ (codes "<rect width=\"") (decimal c.args.side) (codes "\" height=\"") (decimal c.args.side) (codes "\" stroke=\"#1b2a33\" stroke-width=\"") c.of-side.result.now c.of-side.result.now c.of-side.ensures c.of-side.ensures c.put_parts.ensures.text
