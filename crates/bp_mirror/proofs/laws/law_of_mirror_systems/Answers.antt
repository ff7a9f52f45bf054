use Rattle.bp_mirror.proofs.Symmetric.{mirror_meets}
use Rattle.bp_mirror.proofs.laws.law_of_mirror_systems.Goals as goal

pub returns : goal.returns
returns c = record {
  meets = λ kind mirror q s bound swaps P finer each low m ordered. mirror_meets c.args.metric.now.tree c.leaves-leaves.ensures.metric.tree kind mirror q s finer P m bound swaps each low ordered;
}
