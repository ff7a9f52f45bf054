use Rattle.std.proofs.Common.{◌≡◌, ◌≤◌, ◌+◌, ◌-◌, ◌*◌, drop}
use Rattle.bp_metric.specs.Chains.{chain_weight}
use Rattle.bp_metric.specs.Distance.{most_distance}
use Rattle.bp_chain.proofs.weighing.weight.Given as goal

abbrev pub invariant-loop-k : goal.invariant-loop-k
invariant-loop-k l =
    (l.sum + chain_weight l.metric.tree (drop (l.k - 1) l.chain) ≡ chain_weight l.metric.tree l.chain) × (l.sum ≤ most_distance * (l.k - 1))
