use Rattle.bp_certificate.proofs.Scans.{fed_nothing}
use Rattle.bp_certificate.proofs.scanner.CertificateScanner.open.Goals as goal

pub returns-clause-nothing : goal.returns-clause-nothing
returns-clause-nothing c =
    fed_nothing (record { grower = c.in_ok-grower.grower; points = c.in_ok-points.points; leaves = c.in_ok-leaves.leaves }) c.in_ok-grower.ensures.none c.in_ok-grower.ensures.growing c.in_ok-points.ensures c.in_ok-leaves.ensures
