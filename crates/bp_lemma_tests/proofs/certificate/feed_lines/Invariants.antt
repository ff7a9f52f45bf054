use Rattle.std.proofs.Common.{◌≤◌, ◌-◌, length}
use Rattle.bp_certificate.specs.Scanning.{IsUnbroken}
use Rattle.bp_lemma_tests.proofs.certificate.feed_lines.Given as goal

abbrev pub invariant-loop-here : goal.invariant-loop-here
invariant-loop-here l = (l.at ≤ length l.bytes) × IsUnbroken l.scanner

abbrev pub decreases-loop-here : goal.decreases-loop-here
decreases-loop-here l = length l.bytes - l.at
