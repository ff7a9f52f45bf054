use Rattle.std.proofs.Common.{codes, decimal, refl}
use Rattle.bp_picture.specs.PictureText.{name_text}
use Rattle.bp_picture.proofs.Parts.{puts_five}
use Rattle.bp_picture.proofs.tip.put_name.Goals as goal

pub returns-clause-text : goal.returns-clause-text
unfolding name_text
returns-clause-text g c = puts_five _ _ _ (codes " font-size=\"") (decimal c.args.size) (codes "\">") c.args.name.now (codes "</text>\n") c.of.result.now c.args.name.now c.of.ensures refl c.put_parts.ensures.text
