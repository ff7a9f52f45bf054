use Rattle.bp_verify.proofs.OwnText.{own_is, text_stop}
use Rattle.bp_verify.proofs.own.judge_own.Goals as goal

pub returns-in-Ok : goal.returns-in-Ok
returns-in-Ok c = own_is c.args.bytes.now c.args.head c.requires.0 c.in-Ok.verified (c.law_of_one_certificate.ensures c.args.bytes.now) c.requires.1 c.in-Ok.ensures

pub returns-in-Err : goal.returns-in-Err
returns-in-Err c = text_stop c.args.head.tree c.args.bytes.now c.in-Err.fault c.in-Err.ensures
