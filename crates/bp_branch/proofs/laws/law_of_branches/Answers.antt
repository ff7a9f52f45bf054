use Rattle.bp_branch.proofs.Picked.{picked_branch, stated_picked, branch_short}
use Rattle.bp_branch.proofs.laws.law_of_branches.Goals as goal

pub returns-clause-picked : goal.returns-clause-picked
returns-clause-picked c = picked_branch _ c.leaves-leaves.ensures.metric.tree

pub returns-clause-stated : goal.returns-clause-stated
returns-clause-stated c = stated_picked _ c.leaves-leaves.ensures.metric.tree _

pub returns-clause-short : goal.returns-clause-short
returns-clause-short c = branch_short _ c.leaves-leaves.ensures.metric.tree
