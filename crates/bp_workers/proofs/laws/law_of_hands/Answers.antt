use Rattle.bp_workers.proofs.Underway.{underway}
use Rattle.bp_workers.proofs.laws.law_of_hands.Goals as goal

pub returns : goal.returns
returns c limit d left opening_side side drawn points gathered valid =
    underway c.args.metric.now.tree c.leaves-leaves.ensures.metric.tree c.args.metric.now.sheet limit d left opening_side side drawn gathered points valid
