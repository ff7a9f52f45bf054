use Rattle.bp_workers.proofs.Beginnings.{new_agrees}
use Rattle.bp_workers.proofs.worker.Worker.new.Goals as goal

pub returns-clause-agrees : goal.returns-clause-agrees
returns-clause-agrees c T G board pool opening k j hand leaves pass small =
    new_agrees T G board pool opening k j c.args.hand c.args.pass c.in_ok-records.records.items c.new-kept.result.items c.in_ok-records.ensures.items c.new-kept.ensures.items hand leaves pass small
