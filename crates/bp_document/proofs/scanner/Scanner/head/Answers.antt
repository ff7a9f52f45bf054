use Rattle.bp_document.proofs.Scans.{untold, tells}
use Rattle.bp_document.proofs.scanner.Scanner.head.Goals as goal

pub returns-in_default : goal.returns-in_default
returns-in_default c = record {
  head = untold c.self.inside.stage c.self.inside.lines c.args.self.now c.self.view_is c.in_default.not-Nodes c.in_default.not-Behind c.in_default.not-Broken;
  told = tells c.args.self.now;
}
