use Rattle.std.proofs.Common.{◌≡◌, ℕ, take, get_or}
use Rattle.bp_metric.specs.Chains.{Places}
use Rattle.bp_walks.proofs.opens.open_before.Given as goal

abbrev pub invariant-loop-k : goal.invariant-loop-k
invariant-loop-k l = (p : ℕ) → Places (take l.k l.path) l.axis p l.leaf → get_or l.open p 0 ≡ 0
