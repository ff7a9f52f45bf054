use Rattle.bp_pool.proofs.Deques.{forks}
use Rattle.bp_pool.proofs.deque.cut.Goals as goal

pub another-requires : goal.another-requires
another-requires c = forks _ _
