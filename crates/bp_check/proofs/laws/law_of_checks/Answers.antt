use Rattle.bp_check.proofs.Right.{none_below, bound_small, is_wanted}
use Rattle.bp_check.proofs.laws.law_of_checks.Goals as goal

pub returns-clause-none_below : goal.returns-clause-none_below
returns-clause-none_below c = none_below c.args.metric.now.tree c.args.metric.now.sheet c.law_of_floors.ensures c.law_of_refutations.ensures

pub returns-clause-bound : goal.returns-clause-bound
returns-clause-bound c = bound_small c.args.metric.now.tree c.args.metric.now.sheet c.law_of_floors.ensures c.law_of_refutations.ensures

pub returns-clause-wanted : goal.returns-clause-wanted
returns-clause-wanted c = is_wanted c.args.metric.now.tree c.args.metric.now.sheet c.law_of_floors.ensures c.law_of_refutations.ensures
