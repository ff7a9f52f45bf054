use Rattle.bp_pairs.proofs.PairNumbers.{number_below}
use Rattle.bp_pairs.proofs.numbers.pair_number.Goals as goal

pub returns-clause-below : goal.returns-clause-below
returns-clause-below c = number_below c.args.n c.args.pair c.requires.pair
