use Rattle.std.proofs.Common.{◌≡◌, ℕ, ◌+◌, All, vec_len}
use Rattle.std.specs.List.{sum_by}
use Rattle.crossbeam_deque.specs.Handles.{worker_view}
use Rattle.bp_base.specs.declared.record.Task.{Task}
use Rattle.bp_pool.specs.Shares.{IsTaskOf}
use Rattle.bp_pool.specs.Kept.{Deque}
use Rattle.bp_pool.specs.Rows.{all_given, all_pushed, all_taken, IsFull}
use Rattle.bp_pool.proofs.gathering.drain_all.Given as goal

abbrev pub invariant-loop-owner : goal.invariant-loop-owner
invariant-loop-owner l = record {
  full : All IsFull l.owners.items;
  same : (h : Task → ℕ) → all_given h l.fn.owners.items + all_pushed h l.fn.owners.items + all_taken h l.owners.items ≡ all_given h l.owners.items + all_pushed h l.owners.items + all_taken h l.fn.owners.items + sum_by h l.left.items;
  good : (leaves : ℕ) → All (λ (w : Deque). (worker_view w).facts.leaves ≡ leaves) l.fn.owners.items → All (λ (w : Deque). (worker_view w).facts.leaves ≡ leaves) l.owners.items × All (IsTaskOf leaves) l.left.items;
}

abbrev pub decreases-loop-owner : goal.decreases-loop-owner
decreases-loop-owner l = vec_len l.owners
