use Rattle.bp_branch.proofs.NextPairs.{one_next}
use Rattle.bp_branch.proofs.laws.one_next.Goals as goal

pub returns : goal.returns
returns c path p r is_p is_r = one_next c.args.metric.now.tree path p r is_p is_r
