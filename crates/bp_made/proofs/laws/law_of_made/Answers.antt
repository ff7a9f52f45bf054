use Rattle.bp_made.proofs.Rounds.{made_leaves, one_made, some_made}
use Rattle.bp_made.proofs.laws.law_of_made.Goals as goal

pub returns-clause-some : goal.returns-clause-some
returns-clause-some c = some_made

pub returns-clause-one : goal.returns-clause-one
returns-clause-one c = one_made

pub returns-clause-leaves : goal.returns-clause-leaves
returns-clause-leaves c = made_leaves
