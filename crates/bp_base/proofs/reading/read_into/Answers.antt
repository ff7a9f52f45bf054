use Rattle.std.proofs.Common.{◌≤◌, length, arith, length-take}
use Rattle.bp_base.proofs.Pieces.{nothing_taken, more_taken, all_taken}
use Rattle.bp_base.proofs.reading.read_into.Goals as goal

pub loop-init : goal.loop-init
loop-init g c = (nothing_taken g.I.TakesBytes.takes c.args.intake.now (g.S.Source.left c.args.source.now), c.requires, omega arith, omega arith, omega arith)

pub returns-then-k-eq0-clause-taken : goal.returns-then-k-eq0-clause-taken
returns-then-k-eq0-clause-taken g c =
    all_taken g.I.TakesBytes.takes c.args.most c.args.intake.now c.loop.intake (g.S.Source.left c.args.source.now) (g.S.Source.left c.loop.source) (g.S.Source.left c.read.new.self) c.loop.count c.in-Ok.k c.read.new.buffer c.loop.invariant.0 c.loop.invariant.2 c.in-Ok.ensures.bytes c.in-Ok.ensures.end c.if-k-eq0.true

pub loop-preserved : goal.loop-preserved
loop-preserved g c =
    let short : c.in-Ok.k ≤ c.min-room.result = omega (arith, c.in-Ok.ensures.within, length-take c.min-room.result c.loop.buffer) in
    let fits : c.in-Ok.k ≤ length c.read.new.buffer = omega (arith, c.in-Ok.ensures.within, c.read.auto.buffer) in (
      more_taken g.I.TakesBytes.takes c.args.intake.now c.loop.intake c.take.new.self (g.S.Source.left c.args.source.now) (g.S.Source.left c.loop.source) (g.S.Source.left c.read.new.self) c.loop.count c.in-Ok.k c.read.new.buffer c.loop.invariant.0 c.in-Ok.ensures.bytes fits c.in-Ok-take.ensures.takes,
      c.in-Ok-take.ensures.still,
      omega (arith, short, c.min-room.ensures, c.loop.invariant.2),
      omega (arith, c.if-k-eq0.false, c.loop.invariant.3),
      omega (arith, c.in-Ok.ensures.cause.later, c.loop.invariant.4),
    )
