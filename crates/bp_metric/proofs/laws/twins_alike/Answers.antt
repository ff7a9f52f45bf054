use Rattle.bp_metric.proofs.Leaves.{twins_alike}
use Rattle.bp_metric.proofs.laws.twins_alike.Goals as goal

pub returns : goal.returns
returns c = λ i j k i_leaf j_leaf k_leaf twins not_i not_j. twins_alike c.args.metric.now.tree c.leaves-leaves.ensures.metric.tree i j k twins i_leaf j_leaf k_leaf not_i not_j
