use Rattle.bp_certificate.proofs.Scans.{cut_before, cut_behind}
use Rattle.bp_certificate.proofs.step.cut.Goals as goal

pub returns-in-Behind : goal.returns-in-Behind
returns-in-Behind c = cut_behind c.args.stage.now c.in-Behind.head c.in-Behind.is

pub returns-in_default : goal.returns-in_default
returns-in_default c = cut_before c.args.stage.now c.in_default.not-Behind
