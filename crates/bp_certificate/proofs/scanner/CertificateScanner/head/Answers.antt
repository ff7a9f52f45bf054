use Rattle.bp_certificate.proofs.Scans.{untold_here, tells}
use Rattle.bp_certificate.proofs.scanner.CertificateScanner.head.Goals as goal

pub returns-in_default : goal.returns-in_default
returns-in_default c = record {
  head = untold_here c.self.inside.stage c.self.inside.lines c.args.self.now c.self.view_is c.in_default.not-Lemmas c.in_default.not-End c.in_default.not-Behind;
  told = tells c.args.self.now;
}
