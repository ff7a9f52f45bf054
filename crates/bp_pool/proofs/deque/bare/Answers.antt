use Rattle.bp_pool.proofs.Deques.{forks_none}
use Rattle.bp_pool.proofs.deque.bare.Goals as goal

pub another-requires : goal.another-requires
another-requires c = forks_none _ _
