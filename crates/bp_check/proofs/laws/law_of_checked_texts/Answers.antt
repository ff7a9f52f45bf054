use Rattle.bp_check.proofs.Named.{names_leaves}
use Rattle.bp_check.proofs.laws.law_of_checked_texts.Goals as goal

pub returns-clause-short : goal.returns-clause-short
returns-clause-short c = λ T D is checks. c.law_of_sizes.ensures.short D is (names_leaves T D checks)

pub returns-clause-text : goal.returns-clause-text
returns-clause-text c = λ T D is checks. c.law_of_sizes.ensures.text D is (names_leaves T D checks)
