use Rattle.boxpleat_batch.proofs.Answering.{tells_design, tells_fault}
use Rattle.boxpleat_batch.proofs.working.told_for.Goals as goal

pub returns-in-Ok : goal.returns-in-Ok
returns-in-Ok g c = tells_design c.args.budget c.args.piece.now c.in-Ok.tree c.design_for.result c.in-Ok.ensures.reads c.design_for.ensures

pub returns-in-Err-Fault : goal.returns-in-Err-Fault
returns-in-Err-Fault g c =
    tells_fault c.args.budget c.args.piece.now c.in-Err-Fault.fault c.in-Err-Fault.field-0 c.told_fault.result c.in-Err-Fault.field-0-is c.in-Err-Fault.ensures.reads c.told_fault.ensures
