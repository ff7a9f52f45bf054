-- What holds besides the facts in a run that never keeps a child: why hands leave, and that a hand tries another one that is there.
use Rattle.std.specs.Prelude.{◌≡◌, ◌≢◌, ◌⊎◌, ◌≤◌, ◌++◌, ℕ, List, [], length}
use Rattle.std.specs.List.{flat_map}
use Rattle.bp_base.specs.declared.record.Left.{Left}
use Rattle.bp_base.specs.declared.record.Left.TheVariants.{AtFloor, Spent, Idle, Halted, NoMemory}
use Rattle.bp_base.specs.declared.record.Task.{Task}
use Rattle.bp_machine.specs.declared.event.Event.{Event}
use Rattle.bp_machine.specs.declared.event.Event.TheVariants.{Pop, Steal, Draw, Load, Examine, Offer, Push, Leave}
use Rattle.bp_machine.specs.declared.place.Place.{Place}
use Rattle.bp_machine.specs.declared.place.Place.TheVariants.{Ready, Taking, Trying, Holding, Drawn, Offering, Pushing, Leaving, Gone}
use Rattle.bp_machine.specs.State.{HandValue, IsHand, StateValue}

-- the step of hand i at this place that is never Keep
abbrev pub event_at : ℕ → Place → Event
event_at i Ready = Load i
event_at i Taking = Pop i
event_at i (Trying g) = Steal i g
event_at i (Holding t) = Draw i
event_at i (Drawn t ticket) = Examine i
event_at i (Offering p) = Offer i
event_at i Pushing = Push i
event_at i (Leaving left) = Leave i
event_at i (Gone left) = Leave i

-- why a hand leaves: the side is at the floor, or the budget is spent, or its deque is empty
abbrev pub HasCause : StateValue → HandValue → Left → Type 0
HasCause S h AtFloor = S.side ≤ S.floor
HasCause S h Spent = S.budget ≤ S.tickets
HasCause S h Idle = h.deque ≡ []
HasCause S h Halted = ⊥
HasCause S h NoMemory = ⊥

abbrev pub IsInOrder : StateValue → ℕ → HandValue → Place → Type 0
IsInOrder S i h (Trying g) = (1 ≤ g) × (g ≤ length S.hands) × (g ≢ i) × (h.deque ≡ [])
IsInOrder S i h (Leaving left) = HasCause S h left
IsInOrder S i h (Gone left) = HasCause S h left
IsInOrder S i h place = 1 ≤ 1

-- a hand keeps a task only where the budget is spent
pub record IsOrderlyHand (S : StateValue) (i : ℕ) (h : HandValue) : Type 0 where
  pub place : IsInOrder S i h h.place
  pub kept : (h.kept ≡ []) ⊎ (S.budget ≤ S.tickets)

pub record IsOrderly (S : StateValue) : Type 0 where
  pub few : length S.hands ≤ 16
  pub each : (i : ℕ) (h : HandValue) → IsHand S i h → IsOrderlyHand S i h

-- the tasks of hands that hold none: kept, or in a deque
abbrev pub all_set_aside : StateValue → List Task
all_set_aside S = flat_map (λ (h : HandValue). h.kept ++ h.deque) S.hands
