use Rattle.bp_pairs.proofs.PairNumbers.{number_below, numbers_rise}
use Rattle.bp_pairs.proofs.laws.numbers_rise.Goals as goal

pub returns-clause-below : goal.returns-clause-below
returns-clause-below c = number_below

pub returns-clause-rise : goal.returns-clause-rise
returns-clause-rise c = numbers_rise
