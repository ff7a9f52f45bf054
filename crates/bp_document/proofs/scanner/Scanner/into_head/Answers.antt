use Rattle.bp_document.proofs.Scans.{unfinished}
use Rattle.bp_document.proofs.scanner.Scanner.into_head.Goals as goal

pub returns-in_default : goal.returns-in_default
returns-in_default c = unfinished c.self.inside.stage c.self.inside.lines c.args.self c.self.view_is c.requires c.in_default.not-Behind
