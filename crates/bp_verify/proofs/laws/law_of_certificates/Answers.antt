use Rattle.bp_verify.proofs.Right.{none_below, bound_small}
use Rattle.bp_verify.proofs.laws.law_of_certificates.Goals as goal

pub returns-clause-none_below : goal.returns-clause-none_below
returns-clause-none_below c = none_below c.args.metric.now.tree c.args.metric.now.sheet c.law_of_floors.ensures c.law_of_lemmas.ensures.none

pub returns-clause-bound : goal.returns-clause-bound
returns-clause-bound c = bound_small c.args.metric.now.tree c.args.metric.now.sheet c.law_of_floors.ensures c.law_of_lemmas.ensures.none
