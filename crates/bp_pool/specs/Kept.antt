-- How a hand is kept.
use Rattle.std.specs.Prelude.{◌≡◌, ◌≤◌, ◌<◌, ◌+◌, ◌-◌, ◌==◌, cond, min, ℕ, List, [], ◌∷◌, ◌++◌, All, length, map, slice_get, Some}
use Rattle.std.specs.List.{flat_map, range_with_len, sum_by}
use Rattle.crossbeam_deque.specs.Handles.{view, IsPassOf, stealer_deque, worker_deque, worker_view, worker_flavor}
use Rattle.bp_base.specs.declared.record.Task.{Task}
use Rattle.std.specs.declared.alloc.Global.{Global}
use Rattle.crossbeam_deque.specs.declared.handles.Worker.{Worker}
use Rattle.bp_pool.specs.declared.deque.Kept.{Kept}
use Rattle.bp_base.specs.Limits.{most_hands}
use Rattle.bp_pool.specs.declared.hand.Theft.{Theft}
use Rattle.bp_pool.specs.declared.hand.Hand.TheInside.{Inside}
use Rattle.bp_pool.specs.declared.deque.Rights.{Rights}
use Rattle.bp_pool.specs.declared.deque.Facts.{Facts}
use Rattle.bp_pool.specs.Shares.{pushed_of, taken_of, count_of, IsTaskOf}
use Rattle.bp_pool.specs.Rest.{DequeId}
use Rattle.bp_pool.specs.Tries.{AreCounts}
use Rattle.bp_pool.specs.Hands.{HandView, top}

abbrev pub Deque : Type 0
Deque = Worker Task Global Rights Kept

abbrev pub view_of : Theft → Rights
view_of t = view t.pass

abbrev pub taken_by : Theft → List Task
taken_by t = taken_of (view_of t)

abbrev pub deque_of : Theft → DequeId
deque_of t = stealer_deque t.thief

abbrev pub deques_of : List Theft → List DequeId
deques_of ts = map deque_of ts

abbrev pub all_taken : Inside → List Task
all_taken h = taken_of (worker_view h.own) ++ flat_map taken_by h.thefts.items

abbrev pub hand_view : Inside → HandView
hand_view h = record {
  pool = record { deques = deques_of h.thefts.items; leaves = (worker_view h.own).facts.leaves; root = (worker_view h.own).facts.root };
  number = h.number;
  pushed = pushed_of (worker_view h.own);
  taken = all_taken h;
  misses = h.misses.items;
  lost = h.lost.items;
  idle = h.idle;
}

-- how many rights each hand has to each deque through its pass on it: none in a pool of one, which has no other deque
abbrev pub each_of : ℕ → ℕ
each_of hands = min 1 (hands - 1)

-- how many rights there are to each deque: one for its owner, and in a pool of several hands one for each of so many hands
abbrev pub rights_of : ℕ → ℕ → ℕ
rights_of hands others = cond (hands == 1) 1 (1 + others)

abbrev pub total_of : ℕ → ℕ
total_of hands = rights_of hands hands

-- the first deque was given the root
abbrev pub given_to : ℕ → Task → List Task
given_to number root = cond (number == 1) (root ∷ []) []

-- The pass is of the thief's deque, has so many rights, knows the leaves, and never pushed.
pub record IsTheft (each leaves : ℕ) (t : Theft) : Type 0 where
  pub of : IsPassOf (stealer_deque t.thief) t.pass
  pub count : count_of (view_of t) ≡ each
  pub leaves_are : 0 < each → (view_of t).facts.leaves ≡ leaves
  pub no_push : (h : Task → ℕ) → sum_by h (pushed_of (view_of t)) ≡ 0

-- What the deque was told is of the hand's place, and each pass is as it should be.
pub record IsTold (facts : Facts) (number : ℕ) (thefts : List Theft) : Type 0 where
  pub total : facts.total ≡ total_of (length thefts)
  pub given : facts.given ≡ given_to number facts.root
  pub thefts_are : All (IsTheft (each_of (length thefts)) facts.leaves) thefts

-- The own deque stands at the hand's place among the deques that it has passes on. The owner has one right to it.
pub record IsHand (h : Inside) : Type 0 where
  pub lifo : worker_flavor h.own ≡ 1
  pub one : count_of (worker_view h.own) ≡ 1
  pub told : IsTold (worker_view h.own).facts h.number h.thefts.items
  pub places : map (λ (t : Theft). t.place) h.thefts.items ≡ range_with_len 0 (length h.thefts.items)
  pub number : (1 ≤ h.number) × (h.number ≤ length h.thefts.items) × (length h.thefts.items ≤ most_hands)
  pub own_place : slice_get (deques_of h.thefts.items) (h.number - 1) ≡ Some (worker_deque h.own)
  pub misses : AreCounts h.misses.items (length h.thefts.items)
  pub lost : AreCounts h.lost.items (length h.thefts.items)
  pub pushes : h.pushes ≡ min (length (pushed_of (worker_view h.own))) top
  pub takes : h.takes ≡ min (length (all_taken h)) top
  pub good : All (IsTaskOf (worker_view h.own).facts.leaves) (all_taken h)
