use Rattle.bp_pool.proofs.Deques.{merges}
use Rattle.bp_pool.proofs.deque.take_back.Goals as goal

pub absorb-requires-clause-rule : goal.absorb-requires-clause-rule
absorb-requires-clause-rule c = merges _ _ _ _ c.requires.1
