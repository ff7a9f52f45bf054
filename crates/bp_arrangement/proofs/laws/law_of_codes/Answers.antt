use Rattle.bp_arrangement.proofs.Marks.{mark_even, mark_odd, mark_le, mark_less, mark_shift}
use Rattle.bp_arrangement.proofs.laws.law_of_codes.Goals as goal

pub returns-clause-whole : goal.returns-clause-whole
returns-clause-whole c = mark_even

pub returns-clause-behind : goal.returns-clause-behind
returns-clause-behind c = mark_odd

pub returns-clause-rise : goal.returns-clause-rise
returns-clause-rise c = mark_le

pub returns-clause-apart : goal.returns-clause-apart
returns-clause-apart c = mark_less

pub returns-clause-shifted : goal.returns-clause-shifted
returns-clause-shifted c = mark_shift
