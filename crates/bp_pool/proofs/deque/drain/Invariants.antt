use Rattle.std.proofs.Common.{◌≡◌, ◌+◌, ◌-◌, ◌≤◌, ◌++◌, length, All, vec_len, vec_capacity}
use Rattle.crossbeam_deque.specs.Handles.{worker_view, worker_flavor}
use Rattle.bp_base.specs.Bags.{AreSame}
use Rattle.bp_pool.specs.Shares.{HasAll, pushed_of, taken_of, IsTaskOf}
use Rattle.bp_pool.proofs.deque.drain.Given as goal

abbrev pub invariant-loop-task : goal.invariant-loop-task
invariant-loop-task l = record {
  lifo : worker_flavor l.owner ≡ 1;
  all : HasAll (worker_view l.owner);
  pushed : AreSame (pushed_of (worker_view l.owner)) (pushed_of (worker_view l.fn.owner));
  taken : AreSame (l.fn.left.items ++ taken_of (worker_view l.owner)) (taken_of (worker_view l.fn.owner) ++ l.left.items);
  facts : (worker_view l.owner).facts ≡ (worker_view l.fn.owner).facts;
  good : All (IsTaskOf (worker_view l.fn.owner).facts.leaves) l.fn.left.items → All (IsTaskOf (worker_view l.fn.owner).facts.leaves) l.left.items;
  room : vec_len l.left + 1 ≤ vec_capacity l.left;
}

abbrev pub decreases-loop-task : goal.decreases-loop-task
decreases-loop-task l = length (worker_view l.owner).facts.given + length (pushed_of (worker_view l.owner)) - length (taken_of (worker_view l.owner))
