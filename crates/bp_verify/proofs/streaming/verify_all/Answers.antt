use Rattle.std.proofs.Common.{[]}
use Rattle.bp_base.specs.Reading.{joined}
use Rattle.bp_verify.proofs.Sources.{taken_each, verifies}
use Rattle.bp_verify.proofs.streaming.verify_all.Goals as goal

pub returns-in-Ok-clause-verifies : goal.returns-in-Ok-clause-verifies
returns-in-Ok-clause-verifies g c = λ T passed.
    let taken = c.in-Ok.ensures.taken in
    verifies T (g.D.Source.left c.args.source.now) (g.D.Source.left c.read_into.new.source) (joined taken.0) c.finish.result taken.2 (c.finish.ensures.answers T (joined taken.0) taken.3 (taken_each c.args.intake.now c.read_into.new.intake taken.0 taken.1 T [] passed))
