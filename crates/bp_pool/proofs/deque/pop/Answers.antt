use Rattle.bp_pool.proofs.Deques.{drains, finds}
use Rattle.bp_pool.proofs.deque.pop.Goals as goal

pub pop_as-requires-clause-lifo : goal.pop_as-requires-clause-lifo
pop_as-requires-clause-lifo c = λ _. drains _ _ c.requires.0

pub pop_as-requires-clause-empty : goal.pop_as-requires-clause-empty
pop_as-requires-clause-empty c = finds _ _
