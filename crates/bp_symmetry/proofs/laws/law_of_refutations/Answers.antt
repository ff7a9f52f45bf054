use Rattle.bp_symmetry.proofs.Refuting.{refutations}
use Rattle.bp_symmetry.proofs.laws.law_of_refutations.Goals as goal

pub returns : goal.returns
returns c = refutations c.args.metric.now.tree c.leaves-leaves.ensures.metric.tree c.args.metric.now.sheet
