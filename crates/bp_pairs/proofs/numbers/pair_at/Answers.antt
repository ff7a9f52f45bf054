use Rattle.std.proofs.Common.{◌∙◌, sym}
use Rattle.bp_pairs.proofs.PairNumbers.{next_row_is, row_pair, row_number, one_pair}
use Rattle.bp_pairs.proofs.numbers.pair_at.Goals as goal

pub loop-i-preserved : goal.loop-i-preserved
loop-i-preserved c =
    next_row_is c.args.n c.args.number c.loop-i.i c.loop-i.left c.requires.number c.loop-i.invariant c.loop-i-test.true

pub returns-clause-only : goal.returns-clause-only
returns-clause-only c =
    let row = c.loop-i.invariant in
    let here = row_number c.args.n c.args.number c.loop-i.i c.loop-i.left row in
    let named = row_pair c.args.n c.args.number c.loop-i.i c.loop-i.left row c.loop-i-test.false in λ p pair is. one_pair c.args.n p _ pair named (is ∙ sym here)
