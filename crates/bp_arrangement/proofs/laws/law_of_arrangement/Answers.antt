use Rattle.bp_arrangement.proofs.Arranging.{arranging}
use Rattle.bp_arrangement.proofs.laws.law_of_arrangement.Goals as goal

pub returns : goal.returns
returns c = record { arranged = arranging c.args.metric.now.tree c.leaves-leaves.ensures.metric.tree c.args.metric.now.sheet }
