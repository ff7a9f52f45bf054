use Rattle.std.proofs.Common.{◌≡◌, take}
use Rattle.bp_metric.specs.Opening.{side_of}
use Rattle.bp_revise.proofs.starting.side_of.Given as goal

abbrev pub invariant-loop-point : goal.invariant-loop-point
invariant-loop-point l = l.side ≡ side_of l.sheet (take l.point-index l.points)
