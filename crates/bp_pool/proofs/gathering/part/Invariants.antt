use Rattle.std.proofs.Common.{vec_len}
use Rattle.bp_pool.specs.Rest.{PoolView}
use Rattle.bp_pool.specs.Rows.{IsInOrder, IsParted}
use Rattle.bp_pool.proofs.gathering.part.Given as goal

abbrev pub invariant-loop-hand : goal.invariant-loop-hand
invariant-loop-hand l = record { parted : (pool : PoolView) → IsInOrder pool l.fn.hands.items → IsParted pool l.hands.items l.fn.hands.items l.owners.items l.thefts.items }

abbrev pub decreases-loop-hand : goal.decreases-loop-hand
decreases-loop-hand l = vec_len l.hands
