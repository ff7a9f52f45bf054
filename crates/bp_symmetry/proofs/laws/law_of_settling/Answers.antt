use Rattle.bp_symmetry.proofs.SettlingLaw.{settling}
use Rattle.bp_symmetry.proofs.laws.law_of_settling.Goals as goal

pub returns : goal.returns
returns c = settling c.args.metric.now.tree c.leaves-leaves.ensures.metric.tree c.args.metric.now.sheet
