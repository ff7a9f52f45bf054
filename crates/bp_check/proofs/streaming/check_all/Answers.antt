use Rattle.std.proofs.Common.{[]}
use Rattle.bp_base.specs.Reading.{joined}
use Rattle.bp_check.proofs.Sources.{taken_each, streams_text, streams_fault}
use Rattle.bp_check.proofs.streaming.check_all.Goals as goal

pub returns-in-Ok-finish-clause-streams : goal.returns-in-Ok-finish-clause-streams
returns-in-Ok-finish-clause-streams g c = λ T passed.
    let taken = c.in-Ok.ensures.taken in
    streams_text T (g.D.Source.left c.args.source.now) (g.D.Source.left c.read_into.new.source) (joined taken.0) c.in-Ok-finish.streamed taken.2 (c.in-Ok-finish.ensures T (joined taken.0) taken.3 (taken_each c.args.intake.now c.read_into.new.intake taken.0 taken.1 T [] passed))

pub returns-in-Err-clause-streams : goal.returns-in-Err-clause-streams
returns-in-Err-clause-streams g c = λ T passed.
    let taken = c.in-Ok.ensures.taken in
    streams_fault T (g.D.Source.left c.args.source.now) (g.D.Source.left c.read_into.new.source) (joined taken.0) c.in-Err.fault taken.2 (c.in-Err.ensures T (joined taken.0) taken.3 (taken_each c.args.intake.now c.read_into.new.intake taken.0 taken.1 T [] passed))
