use Rattle.std.proofs.Common.{codes, decimal}
use Rattle.bp_picture.specs.PictureText.{paper_text}
use Rattle.bp_picture.proofs.Parts.{puts_five}
use Rattle.bp_picture.proofs.picture.put_paper.Goals as goal

pub returns-clause-text : goal.returns-clause-text
unfolding paper_text
returns-clause-text g c = puts_five _ _ _ (codes "<rect width=\"") (decimal c.args.side) (codes "\" height=\"") (decimal c.args.side) (codes "\" fill=\"#fff\"/>\n") c.of-side.result.now c.of-side.result.now c.of-side.ensures c.of-side.ensures c.put_parts.ensures.text
