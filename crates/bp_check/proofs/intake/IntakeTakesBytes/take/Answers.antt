use Rattle.std.proofs.Common.{arith, take}
use Rattle.std.proofs.lemmas.List.{take_all}
use Rattle.bp_document.proofs.ReadBytes.{piece_free}
use Rattle.bp_check.proofs.Intakes.{takes_none_more, takes_as, next_taken, next_within, underway_on}
use Rattle.bp_check.proofs.intake.IntakeTakesBytes.take.Goals as goal

pub loop-here-init : goal.loop-here-init
loop-here-init c = (omega arith, c.requires, takes_none_more c.args.self.now)

pub take_part-requires-clause-free : goal.take_part-requires-clause-free
take_part-requires-clause-free c = piece_free c.args.bytes.now c.loop-here.at c.in-Some.here c.in-Some.ensures

pub loop-here-preserved : goal.loop-here-preserved
loop-here-preserved c = (
  next_within c.args.bytes.now c.loop-here.at c.in-Some.here c.in-Some.ensures,
  underway_on c.loop-here.self c.take_part.new.self _ c.loop-here.invariant.1 c.take_part.ensures,
  next_taken c.args.bytes.now c.loop-here.at c.in-Some.here c.in-Some.ensures c.args.self.now c.loop-here.self c.take_part.new.self c.loop-here.invariant.2 c.take_part.ensures,
)

pub returns-clause-takes : goal.returns-clause-takes
returns-clause-takes c =
    takes_as c.args.self.now c.loop-here.self (take c.loop-here.at c.args.bytes.now) c.args.bytes.now (take_all c.loop-here.at c.args.bytes.now (omega (arith, c.in_default.ensures))) c.loop-here.invariant.2
