use Rattle.std.proofs.Common.{◌≡◌, ◌+◌, length, vec_len}
use Rattle.bp_base.specs.Tree.{leaf_count}
use Rattle.bp_pool.specs.Opens.{IsNewPool}
use Rattle.bp_workers.specs.Gathered.{root}
use Rattle.bp_workers.proofs.Seating.{AreNew, IsFirst}
use Rattle.bp_workers.proofs.hands.seat.Given as goal

abbrev pub invariant-loop-hand : goal.invariant-loop-hand
invariant-loop-hand l = record {
  total : length l.all.items + length l.workers.items ≡ length l.fn.all.items;
  as_many : length l.passes.items ≡ length l.all.items;
  hands : IsFirst l.all.items l.fn.all.items;
  passes : IsFirst l.passes.items l.fn.passes.items;
  workers : (new : IsNewPool (length l.fn.all.items) (leaf_count l._metric.tree) (root l._side) l.fn.all.items) → AreNew l._metric.tree l._metric.sheet l._board new.pool l._side (length l.all.items) l.workers.items;
}

abbrev pub decreases-loop-hand : goal.decreases-loop-hand
decreases-loop-hand l = vec_len l.all
