use Rattle.std.proofs.Common.{◌≡◌, ℕ, ◌+◌, ◌<◌, get_or}
use Rattle.bp_metric.specs.Chains.{Places}
use Rattle.bp_metric.specs.Distance.{leaf_dist}
use Rattle.bp_walks.proofs.shown.shown_before.Given as goal

abbrev pub invariant-loop-before : goal.invariant-loop-before
invariant-loop-before l = (c : ℕ) → c < l.before → Places l.path l.axis c l.leaf → get_or l.lows c 0 + leaf_dist l.metric.tree c l.leaf ≡ get_or l.lows l.leaf 0 → ⊥
