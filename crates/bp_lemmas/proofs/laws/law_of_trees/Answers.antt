use Rattle.bp_lemmas.proofs.Trees.{tree_meets}
use Rattle.bp_lemmas.proofs.laws.law_of_trees.Goals as goal

pub returns : goal.returns
returns c = record {
  meets = λ q s bound a b swaps P finer corner each low v arranged.
      tree_meets c.args.metric.now.tree c.leaves-leaves.ensures.metric.tree c.args.metric.now.sheet q s finer P v bound a b swaps corner each low arranged;
}
