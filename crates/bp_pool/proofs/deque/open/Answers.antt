use Rattle.bp_pool.proofs.Deques.{begins}
use Rattle.bp_pool.proofs.deque.open.Goals as goal

pub lifo_as-requires : goal.lifo_as-requires
lifo_as-requires c = begins
