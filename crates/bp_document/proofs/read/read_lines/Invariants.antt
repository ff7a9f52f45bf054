use Rattle.std.proofs.Common.{◌≤◌, ◌-◌, take, length}
use Rattle.bp_document.specs.Scanning.{IsUnbroken}
use Rattle.bp_document.specs.Reading.{HasRead}
use Rattle.bp_document.proofs.read.read_lines.Given as goal

abbrev pub invariant-loop-here : goal.invariant-loop-here
invariant-loop-here l = (l.at ≤ length l.bytes) × IsUnbroken l.scanner × HasRead l.scanner l.builder (take l.at l.bytes)

abbrev pub decreases-loop-here : goal.decreases-loop-here
decreases-loop-here l = length l.bytes - l.at
