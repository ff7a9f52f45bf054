use Rattle.bp_tally.proofs.Listed.{each, once, only}
use Rattle.bp_tally.proofs.laws.law_of_pairs.Goals as goal

pub returns-clause-all : goal.returns-clause-all
returns-clause-all c = λ n p. (only n p, each n p)

pub returns-clause-once : goal.returns-clause-once
returns-clause-once c = once
