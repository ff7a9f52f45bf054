use Rattle.bp_certificate.proofs.Scans.{cut_steps, ended_steps}
use Rattle.bp_certificate.proofs.step.take_line.Goals as goal

pub returns-then-ended : goal.returns-then-ended
returns-then-ended c = ended_steps c.args.stage c.args.bytes.now c.args.ended c.take_whole.result c.if-ended.true c.take_whole.ensures

pub returns-else-ended : goal.returns-else-ended
returns-else-ended c = cut_steps c.args.stage c.args.bytes.now c.args.ended c.cut-kind.result c.if-ended.false c.cut-kind.ensures
