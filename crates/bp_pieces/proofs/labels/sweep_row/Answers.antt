use Rattle.std.proofs.Common.{arith}
use Rattle.bp_pieces.proofs.Labelled.{among_within}
use Rattle.bp_pieces.proofs.labels.sweep_row.Goals as goal

pub returns-clause-lowest : goal.returns-clause-lowest
returns-clause-lowest c = λ e x a.
    c.loop-x.invariant.2 e x (omega (arith, c.loop-x-test.false, (among_within c.args.cells.now c.args.kind x c.args.y a).0)) a
