use Rattle.std.proofs.Common.{ℕ, ◌<◌, get_or}
use Rattle.bp_base.specs.declared.path.Pair.{Pair}
use Rattle.bp_branch.specs.Nearest.{AreNear}
use Rattle.bp_branch.proofs.order.first_near.Given as goal

abbrev pub invariant-loop-pair : goal.invariant-loop-pair
invariant-loop-pair l =
    (m : ℕ) (d : Pair) → m < l.pair-index → AreNear l.metric.tree l.xs l.ys (get_or l.pairs m d).i (get_or l.pairs m d).j → ⊥
