use Rattle.bp_walks.proofs.OneLeast.{one_least}
use Rattle.bp_walks.proofs.laws.one_least.Goals as goal

pub returns : goal.returns
returns c = λ path l m pairs a b.
    one_least c.args.metric.now.tree c.leaves-leaves.ensures.metric.tree path pairs c.args.metric.now.sheet l m a b
