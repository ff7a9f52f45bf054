-- The deques of a pool, as lists, and how all hands come back.
use Rattle.std.specs.Prelude.{◌≡◌, ℕ, ◌+◌, ◌-◌, ◌*◌, ◌<◌, ◌==◌, cond, List, map, length, All, slice_get, slice_index_or, Some}
use Rattle.std.specs.List.{sum_by, flat_map}
use Rattle.crossbeam_deque.specs.Handles.{view, IsPassOf, worker_deque, worker_view, worker_flavor}
use Rattle.bp_base.specs.declared.record.Task.{Task}
use Rattle.bp_base.specs.Bags.{AreSame}
use Rattle.bp_pool.specs.declared.hand.Theft.{Theft}
use Rattle.bp_pool.specs.Shares.{count_of, pushed_of, taken_of, Works, HasAll, facts_of}
use Rattle.bp_pool.specs.Rest.{DequeId, PoolView}
use Rattle.bp_pool.specs.Hands.{HandView, IsSameHand}
use Rattle.std.specs.List.{range_with_len}
use Rattle.bp_pool.specs.Kept.{Deque, each_of, total_of, given_to, IsTheft, deques_of}

abbrev pub counts_of : List Deque → List ℕ
counts_of ws = map (λ (w : Deque). count_of (worker_view w)) ws

abbrev pub all_given : (Task → ℕ) → List Deque → ℕ
all_given h ws = sum_by (λ (w : Deque). sum_by h (worker_view w).facts.given) ws

abbrev pub all_pushed : (Task → ℕ) → List Deque → ℕ
all_pushed h ws = sum_by (λ (w : Deque). sum_by h (pushed_of (worker_view w))) ws

abbrev pub all_taken : (Task → ℕ) → List Deque → ℕ
all_taken h ws = sum_by (λ (w : Deque). sum_by h (taken_of (worker_view w))) ws

abbrev pub IsOwner : Deque → Type 0
IsOwner w = (worker_flavor w ≡ 1) × Works (worker_view w)

abbrev pub AreOwners : List Deque → Type 0
AreOwners ws = All IsOwner ws

-- the owner has all rights
abbrev pub IsFull : Deque → Type 0
IsFull w = (worker_flavor w ≡ 1) × HasAll (worker_view w)

-- the pass is of the deque at its place
abbrev pub IsOf : List DequeId → Theft → Type 0
IsOf ids t = (id : DequeId) × (slice_get ids t.place ≡ Some id) × IsPassOf id t.pass

abbrev pub rights_at : ℕ → Theft → ℕ
rights_at j t = cond (t.place == j) (count_of (view t.pass)) 0

abbrev pub pushed_in : (Task → ℕ) → Theft → ℕ
pushed_in h t = sum_by h (pushed_of (view t.pass))

abbrev pub taken_in : (Task → ℕ) → Theft → ℕ
taken_in h t = sum_by h (taken_of (view t.pass))

abbrev pub hands_pushed : (Task → ℕ) → List HandView → ℕ
hands_pushed h all = sum_by (λ (v : HandView). sum_by h v.pushed) all

abbrev pub hands_taken : (Task → ℕ) → List HandView → ℕ
hands_taken h all = sum_by (λ (v : HandView). sum_by h v.taken) all

abbrev pub pushed_by_all : List HandView → List Task
pushed_by_all all = flat_map (λ (v : HandView). v.pushed) all

abbrev pub taken_by_all : List HandView → List Task
taken_by_all all = flat_map (λ (v : HandView). v.taken) all

abbrev pub count_pushed : List HandView → ℕ
count_pushed all = sum_by (λ (v : HandView). length v.pushed) all

abbrev pub count_taken : List HandView → ℕ
count_taken all = sum_by (λ (v : HandView). length v.taken) all

-- each hand stays in its place
pub record AreKept (all later : List HandView) : Type 0 where
  pub long : length later ≡ length all
  pub each : (k : ℕ) (d : HandView) → k < length all → IsSameHand (slice_index_or all k d) (slice_index_or later k d)

-- these are all hands of the pool, in whatever order
pub record IsWhole (pool : PoolView) (all : List HandView) : Type 0 where
  pub some : 0 < length all
  pub of_pool : All (λ (v : HandView). v.pool ≡ pool) all
  pub numbers : AreSame (map (λ (v : HandView). v.number) all) (range_with_len 1 (length pool.deques))

-- these are all hands of the pool, in the order of their numbers
pub record IsInOrder (pool : PoolView) (all : List HandView) : Type 0 where
  pub some : 0 < length all
  pub count : length all ≡ length pool.deques
  pub each : (k : ℕ) (d : HandView) → k < length all → ((slice_index_or all k d).pool ≡ pool) × ((slice_index_or all k d).number ≡ k + 1)

-- the owner of the deque at this place, with its own right
pub record IsOwn (pool : PoolView) (place : ℕ) (w : Deque) : Type 0 where
  pub lifo : worker_flavor w ≡ 1
  pub one : count_of (worker_view w) ≡ 1
  pub is : slice_get pool.deques place ≡ Some (worker_deque w)
  pub facts : (worker_view w).facts ≡ facts_of pool.leaves (total_of (length pool.deques)) pool.root (given_to (place + 1) pool.root)

-- the owners and passes of all hands but those that are left
pub record IsParted (pool : PoolView) (left all : List HandView) (owners : List Deque) (thefts : List Theft) : Type 0 where
  pub count : length owners + length left ≡ length pool.deques
  pub prefix : (k : ℕ) (d : HandView) → k < length left → slice_index_or left k d ≡ slice_index_or all k d
  pub owners_are : (k : ℕ) (d : Deque) → k < length owners → IsOwn pool (length left + k) (slice_index_or owners k d)
  pub thefts_are : All (IsOf pool.deques) thefts
  pub rights : (j : ℕ) → j < length pool.deques → sum_by (rights_at j) thefts ≡ length owners * each_of (length pool.deques)
  pub no_push : (h : Task → ℕ) → sum_by (pushed_in h) thefts ≡ 0
  pub pushed : (h : Task → ℕ) → all_pushed h owners + hands_pushed h left ≡ hands_pushed h all
  pub taken : (h : Task → ℕ) → all_taken h owners + sum_by (taken_in h) thefts + hands_taken h left ≡ hands_taken h all

-- what a hand consists of
pub record IsParts (v : HandView) (own : Deque) (thefts : List Theft) : Type 0 where
  pub deques : deques_of thefts ≡ v.pool.deques
  pub lifo : worker_flavor own ≡ 1
  pub one : count_of (worker_view own) ≡ 1
  pub is : slice_get v.pool.deques (v.number - 1) ≡ Some (worker_deque own)
  pub facts : (worker_view own).facts ≡ facts_of v.pool.leaves (total_of (length v.pool.deques)) v.pool.root (given_to v.number v.pool.root)
  pub places : map (λ (t : Theft). t.place) thefts ≡ range_with_len 0 (length v.pool.deques)
  pub thefts_are : All (IsTheft (each_of (length v.pool.deques)) v.pool.leaves) thefts
  pub pushed : (h : Task → ℕ) → sum_by h (pushed_of (worker_view own)) ≡ sum_by h v.pushed
  pub taken : (h : Task → ℕ) → sum_by h (taken_of (worker_view own)) + sum_by (taken_in h) thefts ≡ sum_by h v.taken
