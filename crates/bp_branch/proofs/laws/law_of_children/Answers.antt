use Rattle.bp_branch.proofs.Branches.{next_new}
use Rattle.bp_branch.proofs.Picked.{child_stated}
use Rattle.bp_branch.proofs.laws.law_of_children.Goals as goal

pub returns-clause-new : goal.returns-clause-new
returns-clause-new c path p branch next = next_new _ c.leaves-leaves.ensures.metric.tree path branch.pairs branch.no_cycle p next

pub returns-clause-stated : goal.returns-clause-stated
returns-clause-stated c = child_stated _ c.leaves-leaves.ensures.metric.tree _
