use Rattle.std.proofs.Common.{◌-◌}
use Rattle.bp_contour.proofs.Listing.{IsBetween}
use Rattle.bp_contour.proofs.runs.find.Given as goal

abbrev pub invariant-loop-high : goal.invariant-loop-high
invariant-loop-high l = IsBetween l.runs l.way l.from l.low l.high

abbrev pub decreases-loop-high : goal.decreases-loop-high
decreases-loop-high l = l.high - l.low
