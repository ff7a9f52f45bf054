use Rattle.std.proofs.Common.{codes, decimal}
use Rattle.bp_picture.specs.PictureText.{title_text}
use Rattle.bp_picture.proofs.Parts.{puts_five}
use Rattle.bp_picture.proofs.picture.put_title.Goals as goal

pub returns-clause-text : goal.returns-clause-text
unfolding title_text
returns-clause-text g c = puts_five _ _ _ (codes "<title>side ") (decimal c.args.side) (codes " bound ") (decimal c.args.bound) (codes "</title>\n<g transform=\"scale(1000)\">\n") c.of.result.now c.of-2.result.now c.of.ensures c.of-2.ensures c.put_parts.ensures.text
