use Rattle.std.proofs.Common.{[], refl}
use Rattle.bp_verify.proofs.own.verify_bytes.Goals as goal

pub finish-requires : goal.finish-requires
finish-requires c = record { underway = c.in-Ok.ensures.still }

pub returns-in-Ok : goal.returns-in-Ok
returns-in-Ok c = λ T passed. c.finish.ensures.answers T c.args.bytes.now refl (c.in-Ok.ensures.takes T [] passed)
