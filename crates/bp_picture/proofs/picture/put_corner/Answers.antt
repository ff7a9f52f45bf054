use Rattle.std.proofs.Common.{◌*◌, codes, decimal}
use Rattle.bp_picture.specs.PictureText.{corner_text}
use Rattle.bp_picture.proofs.Parts.{puts_four}
use Rattle.bp_picture.proofs.picture.put_corner.Goals as goal

pub returns-clause-text : goal.returns-clause-text
unfolding corner_text
returns-clause-text g c = puts_four _ _ _ (codes " viewBox=\"-") (decimal (60 * c.args.side)) (codes " -") (decimal (60 * c.args.side)) c.of-margin.result.now c.of-margin.result.now c.of-margin.ensures c.of-margin.ensures c.put_parts.ensures.text
