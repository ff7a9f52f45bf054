use Rattle.std.proofs.Common.{◌≤◌, ◌-◌, List, take, length}
use Rattle.bp_certificate.specs.declared.certificate.Lemma.{Lemma}
use Rattle.bp_certificate.specs.Scanning.{HasFed, IsUnbroken}
use Rattle.bp_verify.proofs.own.scan.Given as goal

abbrev pub invariant-loop-here : goal.invariant-loop-here
invariant-loop-here l = (l.at ≤ length l.bytes) × IsUnbroken l.scanner × ((ls : List Lemma) × HasFed l.scanner (take l.at l.bytes) ls)

abbrev pub decreases-loop-here : goal.decreases-loop-here
decreases-loop-here l = length l.bytes - l.at
