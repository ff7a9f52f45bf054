use Rattle.std.proofs.Common.{◌∙◌, ap, codes, decimal}
use Rattle.bp_picture.specs.PictureText.{pixels, size_text}
use Rattle.bp_picture.proofs.Parts.{puts_five}
use Rattle.bp_picture.proofs.picture.put_size.Goals as goal

pub returns-clause-text : goal.returns-clause-text
unfolding size_text
returns-clause-text g c = puts_five _ _ _ (codes "<svg xmlns=\"http://www.w3.org/2000/svg\" width=\"") (decimal (pixels c.args.side)) (codes "\" height=\"") (decimal (pixels c.args.side)) (codes "\"") c.of-width.result.now c.of-width.result.now (c.of-width.ensures ∙ ap decimal c.pixels.ensures) (c.of-width.ensures ∙ ap decimal c.pixels.ensures) c.put_parts.ensures.text
