use Rattle.bp_lemmas.specs.Systems.{apart}
use Rattle.bp_lemmas.specs.Trees.{order_of, tree_system}
use Rattle.bp_mirror.specs.Systems.{mirror_system}
use Rattle.bp_replay.proofs.given.Given.relation.Goals as goal

pub returns-in-Corner-clause-order : goal.returns-in-Corner-clause-order
unfolding tree_system order_of
returns-in-Corner-clause-order c =
    rw (← c.self.view_is, c.in-Corner.is) (λ i. apart (c.place.ensures.number i) (c.place-in-Corner.ensures.number i) (c.dist.ensures.value i))

pub returns-in-Mirror-clause-order : goal.returns-in-Mirror-clause-order
unfolding mirror_system
returns-in-Mirror-clause-order c = rw (← c.self.view_is, c.in-Mirror.is) c.relation.ensures.order
