use Rattle.bp_regions.proofs.Disjoint.{disjoint, owned_once, one_owner}
use Rattle.bp_regions.proofs.laws.law_of_regions.Goals as goal

pub returns-clause-disjoint : goal.returns-clause-disjoint
returns-clause-disjoint c = λ S P v. disjoint c.args.metric.now.tree c.leaves-leaves.ensures.metric.tree S P v

pub returns-clause-owned_once : goal.returns-clause-owned_once
returns-clause-owned_once c = λ S P v. owned_once c.args.metric.now.tree c.leaves-leaves.ensures.metric.tree S P v

pub returns-clause-one_owner : goal.returns-clause-one_owner
returns-clause-one_owner c = λ S P v. one_owner c.args.metric.now.tree c.leaves-leaves.ensures.metric.tree S P v
