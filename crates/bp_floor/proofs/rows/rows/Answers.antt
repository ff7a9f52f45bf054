use Rattle.std.proofs.Common.{arith}
use Rattle.bp_floor.proofs.BoxRows.{rows_is, rows_last}
use Rattle.bp_floor.proofs.rows.rows.Goals as goal

pub returns-then-room-count-clause-rows : goal.returns-then-room-count-clause-rows
returns-then-room-count-clause-rows c =
    rows_is c.args.sheet c.args.m c.args.count c.loop-rows.rows (omega (arith, c.loop-rows-test.true)) c.loop-rows.invariant (omega (arith, c.if-room-count.true, c.room.ensures))

pub returns-clause-rows : goal.returns-clause-rows
returns-clause-rows c =
    rows_last c.args.sheet c.args.m c.args.count (λ k less. c.loop-rows.invariant k (omega (arith, less, c.loop-rows-test.false)))
