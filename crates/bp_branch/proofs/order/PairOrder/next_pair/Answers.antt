use Rattle.std.proofs.Common.{List, ℕ, subst}
use Rattle.bp_base.specs.Tree.{leaf_count}
use Rattle.bp_branch.specs.Nearest.{IsBest}
use Rattle.bp_branch.proofs.Best.{is_next}
use Rattle.bp_branch.proofs.order.PairOrder.next_pair.Goals as goal

pub returns : goal.returns
returns c = λ path least.
    let T = c.args.metric.now.tree in
    let n = leaf_count T in
    is_next T c.args.metric.now.sheet path c.args.least.now least c.first_near.result
    (subst (λ (xs : List ℕ). IsBest T xs c.args.least.now.ys n 0 c.first_near.result) c.as_slice.ensures
    (subst (λ (ys : List ℕ). IsBest T c.as_slice.result.now ys n 0 c.first_near.result) c.as_slice-2.ensures c.first_near.ensures))
