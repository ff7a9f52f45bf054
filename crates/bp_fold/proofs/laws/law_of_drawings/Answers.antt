use Rattle.bp_fold.proofs.Whole.{one_drawing}
use Rattle.bp_fold.proofs.laws.law_of_drawings.Goals as goal

pub returns : goal.returns
returns c = one_drawing c.args.regions.now
