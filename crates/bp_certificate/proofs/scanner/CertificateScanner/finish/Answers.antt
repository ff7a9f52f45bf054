use Rattle.std.proofs.Common.{arith}
use Rattle.bp_certificate.proofs.Scans.{few_lines, finished, unfinished}
use Rattle.bp_certificate.proofs.scanner.CertificateScanner.finish.Goals as goal

pub overflow_add-result : goal.overflow_add-result
overflow_add-result c = let few = few_lines c.self.inside.stage c.self.inside.lines c.args.self.now c.self.view_is c.requires c.self.invariant in omega (arith, few)

pub returns-in-Behind : goal.returns-in-Behind
returns-in-Behind c = finished c.self.inside.stage c.self.inside.lines c.args.self.now c.self.view_is c.in-Behind.head c.in-Behind.is

pub returns-in_default : goal.returns-in_default
returns-in_default c = unfinished c.self.inside.stage c.self.inside.lines c.args.self.now c.self.view_is c.requires c.in_default.not-Behind
