use Rattle.bp_verify.proofs.OwnText.{head_stop}
use Rattle.bp_verify.proofs.own.verify_own.Goals as goal

pub returns-in-Err : goal.returns-in-Err
returns-in-Err c = head_stop c.args.bytes.now c.in-Err.fault c.in-Err.ensures
