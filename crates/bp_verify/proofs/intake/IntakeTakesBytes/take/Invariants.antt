use Rattle.std.proofs.Common.{◌≤◌, ◌-◌, take, length}
use Rattle.bp_verify.specs.Intake.{IsUnderway, Takes}
use Rattle.bp_verify.proofs.intake.IntakeTakesBytes.take.Given as goal

abbrev pub invariant-loop-here : goal.invariant-loop-here
invariant-loop-here l = (l.at ≤ length l.bytes) × IsUnderway l.self × Takes l.fn.self l.self (take l.at l.bytes)

abbrev pub decreases-loop-here : goal.decreases-loop-here
decreases-loop-here l = length l.bytes - l.at
