use Rattle.std.proofs.Common.{◌≡◌, ◌∷◌, take}
use Rattle.std.specs.List.{flat_map}
use Rattle.bp_regions.specs.Balls.{ends_of}
use Rattle.bp_regions.proofs.cuts.ends_of.Given as goal

abbrev pub invariant-loop-ball : goal.invariant-loop-ball
invariant-loop-ball l = l.ends.items ≡ 0 ∷ l.side ∷ flat_map (ends_of l.side l.axis) (take l.ball-index l.balls)
