use Rattle.std.proofs.Common.{arith}
use Rattle.bp_pieces.proofs.Labelled.{among_within, near_range}
use Rattle.bp_pieces.proofs.labels.least_in_row.Goals as goal

pub returns-clause-low : goal.returns-clause-low
returns-clause-low c = λ u a n.
    c.loop-u.invariant.2 u (omega (arith, c.loop-u-test.false, c.min-u-end.ensures, (among_within c.args.cells.now c.args.kind u c.args.v a).0, (near_range c.args.kind c.args.at.x c.args.at.y u c.args.v n).1)) a n
