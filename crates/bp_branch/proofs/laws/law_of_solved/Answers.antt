use Rattle.bp_branch.proofs.Solved.{solved_valid}
use Rattle.bp_branch.proofs.laws.law_of_solved.Goals as goal

pub returns : goal.returns
returns c path l least none small = solved_valid _ path _ l least none small
