use Rattle.std.proofs.Common.{◌≡◌, ◌⊎◌, ℕ, ◌+◌, ◌≤◌, take, get_or}
use Rattle.bp_metric.specs.Chains.{Places}
use Rattle.bp_metric.specs.Distance.{leaf_dist}
use Rattle.bp_walks.proofs.lows.greatest.Given as goal

abbrev pub invariant-loop-k : goal.invariant-loop-k
invariant-loop-k l = ((p : ℕ) → Places (take l.k l.path) l.axis p l.leaf → get_or l.lows p 0 + leaf_dist l.metric.tree p l.leaf ≤ l.most) × ((l.most ≡ 0) ⊎ ((p : ℕ) × Places l.path l.axis p l.leaf × (get_or l.lows p 0 + leaf_dist l.metric.tree p l.leaf ≡ l.most)))
