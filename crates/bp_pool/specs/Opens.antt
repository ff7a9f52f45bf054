-- How a pool is laid out and its hands are made.
use Rattle.std.specs.Prelude.{◌≡◌, ◌+◌, ◌<◌, ℕ, List, [], length, map, All, slice_index_or, replicate}
use Rattle.std.specs.List.{range_with_len}
use Rattle.crossbeam_deque.specs.Handles.{worker_deque, worker_view, worker_flavor}
use Rattle.bp_base.specs.declared.record.Task.{Task}
use Rattle.bp_pool.specs.declared.deque.Facts.{Facts}
use Rattle.bp_pool.specs.declared.hand.Theft.{Theft}
use Rattle.bp_pool.specs.Shares.{facts_of, untouched, fresh}
use Rattle.bp_pool.specs.Rest.{DequeId, PoolView}
use Rattle.bp_pool.specs.Hands.{HandView}
use Rattle.bp_pool.specs.Kept.{Deque, deques_of, view_of, IsTheft, each_of, total_of, given_to}

abbrev pub ids_of : List Deque → List DequeId
ids_of ws = map (λ (w : Deque). worker_deque w) ws

abbrev pub facts_in : Deque → Facts
facts_in w = (worker_view w).facts

abbrev pub all_facts : List Deque → List Facts
all_facts ws = map facts_in ws

-- the owner has so many rights, with nothing done, and knows the leaves
pub record IsLeft (leaves rights : ℕ) (w : Deque) : Type 0 where
  pub lifo : worker_flavor w ≡ 1
  pub untouched_are : (worker_view w).deeds ≡ untouched rights
  pub leaves_are : (worker_view w).facts.leaves ≡ leaves

-- the owner knows these facts, with nothing done
pub record IsTold (facts : Facts) (w : Deque) : Type 0 where
  pub lifo : worker_flavor w ≡ 1
  pub fresh_is : worker_view w ≡ fresh facts

-- a new pass on a deque
pub record IsNewTheft (each leaves : ℕ) (t : Theft) : Type 0 where
  pub theft : IsTheft each leaves t
  pub untouched_are : (view_of t).deeds ≡ untouched each

-- a new pass on each deque, in their order
pub record IsRow (leaves hands : ℕ) (ids : List DequeId) (ts : List Theft) : Type 0 where
  pub places : map (λ (t : Theft). t.place) ts ≡ range_with_len 0 hands
  pub deques : deques_of ts ≡ ids
  pub thefts : All (IsNewTheft (each_of hands) leaves) ts

-- the deques of a pool, each told of it, the first given the root
pub record IsLaid (pool : PoolView) (hands : ℕ) (ws : List Deque) : Type 0 where
  pub ids : ids_of ws ≡ pool.deques
  pub count : length ws ≡ hands
  pub told : (k : ℕ) (d : Deque) → k < length ws → facts_in (slice_index_or ws k d) ≡ facts_of pool.leaves (total_of hands) pool.root (given_to (k + 1) pool.root)

-- a hand that has done nothing
abbrev pub new_hand : PoolView → ℕ → HandView
new_hand pool number = record {
  pool = pool;
  number = number;
  pushed = [];
  taken = [];
  misses = replicate (length pool.deques) 0;
  lost = replicate (length pool.deques) 0;
  idle = 0;
}

-- the hands of a new pool
pub record IsNewPool (hands leaves : ℕ) (root : Task) (all : List HandView) : Type 0 where
  pub pool : PoolView
  pub leaves_are : pool.leaves ≡ leaves
  pub root_is : pool.root ≡ root
  pub count : (length pool.deques ≡ hands) × (length all ≡ hands)
  pub each : (k : ℕ) (d : HandView) → k < hands → slice_index_or all k d ≡ new_hand pool (k + 1)
