use Rattle.bp_pool.proofs.Deques.{takes}
use Rattle.bp_pool.proofs.deque.steal.Goals as goal

pub steal_as-requires-clause-takes : goal.steal_as-requires-clause-takes
steal_as-requires-clause-takes c = takes _ _ 1 c.requires.1
