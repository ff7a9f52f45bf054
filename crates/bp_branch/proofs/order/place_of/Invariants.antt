use Rattle.std.proofs.Common.{ℕ, ◌<◌, ◌≤◌, get_or}
use Rattle.bp_base.specs.declared.path.Pair.{Pair}
use Rattle.bp_metric.specs.Distance.{leaf_dist}
use Rattle.bp_branch.proofs.order.place_of.Given as goal

abbrev pub invariant-loop-k : goal.invariant-loop-k
invariant-loop-k l =
    (m : ℕ) (d : Pair) → m < l.k → leaf_dist l.metric.tree l.fn.pair.i l.fn.pair.j ≤ leaf_dist l.metric.tree (get_or l.pairs m d).i (get_or l.pairs m d).j
