use Rattle.bp_arrangement.proofs.Denials.{denied_twice, either_holds, never_both}
use Rattle.bp_arrangement.proofs.laws.law_of_denials.Goals as goal

pub returns-clause-twice : goal.returns-clause-twice
returns-clause-twice c = denied_twice

pub returns-clause-either : goal.returns-clause-either
returns-clause-either c = either_holds

pub returns-clause-not_both : goal.returns-clause-not_both
returns-clause-not_both c = never_both
