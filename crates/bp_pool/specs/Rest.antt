-- What a try leaves as it was.
use Rattle.std.specs.Prelude.{ℕ, List}
use Rattle.std.specs.declared.alloc.Global.{Global}
use Rattle.bp_base.specs.declared.record.Task.{Task}

-- which deque it is
abbrev pub DequeId : Type 0
DequeId = (ℕ × ℕ) × Global

-- a pool: its deques in the order of its hands, its number of leaves, and its root task
pub record PoolView : Type 0 where
  pub deques : List DequeId
  pub leaves : ℕ
  pub root : Task

-- a hand's pool, the tasks that it pushed, and how many of its takes in a row gave none
pub record RestView : Type 0 where
  pub pool : PoolView
  pub pushed : List Task
  pub idle : ℕ
