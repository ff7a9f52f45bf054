use Rattle.bp_lemmas.proofs.Trees.{lemmas_law}
use Rattle.bp_lemmas.proofs.laws.law_of_lemmas.Goals as goal

pub returns : goal.returns
returns c = record { none = lemmas_law c.args.metric.now.tree c.leaves-leaves.ensures.metric.tree c.args.metric.now.sheet }
