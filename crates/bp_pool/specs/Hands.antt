-- What contracts see of a hand, and what the steps tell of it.
use Rattle.std.specs.Prelude.{◌≡◌, ℕ, ◌+◌, ◌-◌, ◌^◌, min, List, ◌∷◌, Option, None, Some, length}
use Rattle.bp_base.specs.declared.record.Task.{Task}
use Rattle.bp_base.specs.Bags.{AreSame}
use Rattle.bp_pool.specs.Rest.{PoolView, RestView}
use Rattle.bp_pool.specs.Tries.{Rose, MatchTake, EachRose, EachTried, SomeLost}
use Rattle.bp_pool.specs.declared.tries.Take.{Take}
use Rattle.bp_pool.specs.declared.tries.Take.TheVariants as took

-- A hand: its pool, its number in it, the tasks that it pushed and took, for each hand how often its deque was seen empty and how often a steal was lost, and how many takes in a row gave none.
pub record HandView : Type 0 where
  pub pool : PoolView
  pub number : ℕ
  pub pushed : List Task
  pub taken : List Task
  pub misses : List ℕ
  pub lost : List ℕ
  pub idle : ℕ

abbrev pub hands_of : HandView → ℕ
hands_of h = length h.pool.deques

abbrev pub rest_of_hand : HandView → RestView
rest_of_hand h = record { pool = h.pool; pushed = h.pushed; idle = h.idle }

-- the hand stays in its place
abbrev pub IsSameHand : HandView → HandView → Type 0
IsSameHand old new = (new.pool ≡ old.pool) × (new.number ≡ old.number)

abbrev pub top : ℕ
top = 2 ^ 64 - 1

-- one more, up to the most
abbrev pub one_more : ℕ → ℕ
one_more n = min (n + 1) top

-- how many takes in a row gave none, after this take
abbrev pub idle_after : Take → ℕ → ℕ
idle_after (took.Task t) n = 0
idle_after took.Empty n = one_more n
idle_after took.Contended n = one_more n

-- in a pool of one hand: all that was pushed was taken, the root among it
abbrev pub IsAllTaken : HandView → Type 0
IsAllTaken h = AreSame (h.pool.root ∷ h.pushed) h.taken

abbrev pub of_take : Take → Option Task
of_take (took.Task t) = Some t
of_take took.Empty = None
of_take took.Contended = None

-- what rose in a take that gave no task
abbrev pub HasCauses : HandView → HandView → Take → Type 0
HasCauses old new given = MatchTake given (λ _. Unit {0}) (EachRose old.misses new.misses (hands_of old)) (Rose old.misses new.misses (old.number - 1) × EachTried old.misses new.misses old.lost new.lost (hands_of old) × SomeLost old.lost new.lost (hands_of old))
