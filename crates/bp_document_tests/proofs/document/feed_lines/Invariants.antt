use Rattle.std.proofs.Common.{◌≤◌, ◌-◌, length}
use Rattle.bp_document.specs.Scanning.{IsUnbroken}
use Rattle.bp_document_tests.proofs.document.feed_lines.Given as goal

abbrev pub invariant-loop-here : goal.invariant-loop-here
invariant-loop-here l = (l.at ≤ length l.bytes) × IsUnbroken l.scanner

abbrev pub decreases-loop-here : goal.decreases-loop-here
decreases-loop-here l = length l.bytes - l.at
