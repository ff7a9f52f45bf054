use Rattle.bp_pairs.proofs.SteadyLists.{one_steady}
use Rattle.bp_pairs.proofs.laws.one_steady.Goals as goal

pub returns : goal.returns
returns c s P Q p q = one_steady c.args.metric.now.tree c.args.metric.now.sheet s P Q p q
