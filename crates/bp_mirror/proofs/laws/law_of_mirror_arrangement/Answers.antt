use Rattle.bp_mirror.proofs.Exchanging.{arranging_mirrored}
use Rattle.bp_mirror.proofs.laws.law_of_mirror_arrangement.Goals as goal

pub returns : goal.returns
returns c = record {
  arranged = λ kind mirror q s swaps P is_mirror each m. arranging_mirrored c.args.metric.now.tree c.leaves-leaves.ensures.metric.tree kind mirror is_mirror q s swaps P each m;
}
