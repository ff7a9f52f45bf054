use Rattle.std.proofs.Common.{◌≡◌, ◌-◌}
use Rattle.bp_made.specs.Made.{after_rounds}
use Rattle.bp_made.proofs.made.made_tree.Given as goal

abbrev pub invariant-loop-round : goal.invariant-loop-round
invariant-loop-round l = l.growth ≡ after_rounds l.seed (l._round - 2)
