use Rattle.bp_symmetry.proofs.Refuting.{counts}
use Rattle.bp_symmetry.proofs.laws.refutation_counts.Goals as goal

pub returns : goal.returns
returns c = counts c.args.metric.now.tree c.leaves-leaves.ensures.metric.tree c.args.metric.now.sheet
