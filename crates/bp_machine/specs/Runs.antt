-- A whole run of the machine: turns that a schedule gives to live hands until all have left, and what the search has come to then.
use Rattle.std.specs.Prelude.{◌≡◌, ◌≢◌, ◌⊎◌, ◌<◌, ◌-◌, ℕ, Bool, true, false, List, [], ◌∷◌, Some, length, min, slice_get, take}
use Rattle.std.specs.List.{count_by}
use Rattle.bp_base.specs.declared.point.Placement.{Placement}
use Rattle.bp_base.specs.declared.point.Point.{Point}
use Rattle.bp_base.specs.declared.record.Settled.{Settled}
use Rattle.bp_base.specs.declared.point.Sheet.{Sheet}
use Rattle.bp_base.specs.Bags.{AreSame}
use Rattle.bp_base.specs.Tree.{TreeValue}
use Rattle.bp_base.specs.Turns.{SeedTurns}
use Rattle.bp_metric.specs.Floor.{IsFloorSide}
use Rattle.bp_metric.specs.Metric.{MetricValue}
use Rattle.bp_metric.specs.Opening.{IsOpening, side_of}
use Rattle.bp_machine.specs.declared.event.Event.{Event}
use Rattle.bp_machine.specs.declared.event.Event.TheVariants.{Keep}
use Rattle.bp_machine.specs.declared.place.Place.{Place}
use Rattle.bp_machine.specs.declared.place.Place.TheVariants.{Ready, Gone}
use Rattle.bp_machine.specs.Facts.{IsReached, all_records, all_tasks}
use Rattle.bp_machine.specs.State.{HandValue, IsHand, StateValue, begun}
use Rattle.bp_machine.specs.Steps.{Steps, hand_of, with_hand}

-- the place of a hand that hasn't left
abbrev pub stays : Place → Bool
stays (Gone left) = false
stays place = true

abbrev pub is_live : HandValue → Bool
is_live h = stays h.place

abbrev pub live_count : StateValue → ℕ
live_count S = count_by is_live S.hands

-- hand i is live, and so many live hands have a lesser number
abbrev pub IsLiveHand : StateValue → ℕ → ℕ → Type 0
IsLiveHand S k i = (h : HandValue) × IsHand S i h × (is_live h ≡ true) × (count_by is_live (take (i - 1) S.hands) ≡ k)

abbrev pub is_keep : Event → Bool
is_keep (Keep i) = true
is_keep event = false

-- the live hand of this number, counted from 0, takes its step, which is never Keep
abbrev pub Moves : StateValue → ℕ → StateValue → Type 0
Moves S k to = (event : Event) × IsLiveHand S k (hand_of event) × (is_keep event ≡ false) × Steps S event to

-- all hands have left, while a task is left that may still be examined
abbrev pub CanWake : StateValue → Type 0
CanWake S = (live_count S ≡ 0) × (0 < length (all_tasks S)) × (S.tickets < S.budget) × (S.floor < S.side)

-- there hand 1 becomes live again
abbrev pub Wakes : StateValue → StateValue → Type 0
Wakes S to =
    (CanWake S × ((h : HandValue) × IsHand S 1 h × (to ≡ with_hand S 1 (record h { place = Ready; empty_takes = 0 }))))
    ⊎ ((CanWake S → ⊥) × (to ≡ S))

module _ {Q : Type 0} (turns : Q → ℕ → ℕ → Q → Type 0) where
  -- a turn of a schedule, whose states are in Q and whose turns this relation tells: its answer, below the count of live hands, says
  -- which of them moves
  abbrev pub Turns : ℕ → StateValue → Q → StateValue → Q → Type 0
  Turns k S q to after =
      (awake : StateValue) × Wakes S awake × (0 < live_count awake) × turns q (live_count awake) k after × Moves awake k to

  -- turns with these answers lead from one state to the other
  abbrev pub Runs : List ℕ → StateValue → Q → StateValue → Q → Type 0
  Runs [] S q to after = (to ≡ S) × (after ≡ q)
  Runs (k ∷ answers) S q to after = (S' : StateValue) × (q' : Q) × Turns k S q S' q' × Runs answers S' q' to after

-- the points: the opening's where no lesser side was found, else those of the least-numbered hand whose best placement has the side
abbrev pub ArePicked : Placement → StateValue → List Point → Type 0
ArePicked opening S points =
    ((S.side ≡ opening.side) × (points ≡ opening.points))
    ⊎ (
    (S.side ≢ opening.side)
    × (
    (k : ℕ) × (h : HandValue) × (p : Placement) × (slice_get S.hands k ≡ Some h) × (h.best ≡ Some p) × (p.side ≡ S.side) × (points ≡ p.points)
    × ((j : ℕ) (g : HandValue) → j < k → slice_get S.hands j ≡ Some g → IsReached S.side g → ⊥)
    )
    )

-- what the search has come to in a state, its two lists up to order
pub record IsOutcome (opening : Placement) (S : StateValue) (Z : Settled) : Type 0 where
  pub records : AreSame Z.records (all_records S)
  pub left : AreSame Z.left (all_tasks S)
  pub side : Z.side ≡ S.side
  pub examined : Z.examined ≡ min S.tickets S.budget
  pub points : ArePicked opening S Z.points

-- what a run comes to that begins with these, for a schedule that goes from one state to another
pub record IsScheduled {Q : Type 0} (turns : Q → ℕ → ℕ → Q → Type 0) (M : MetricValue) (opening : Placement) (floor hands budget : ℕ) (q after : Q) (Z : Settled) : Type 0 where
  pub answers : List ℕ
  pub end : StateValue
  pub run : Runs turns answers (begun M opening.side floor hands budget) q end after
  pub all_left : live_count end ≡ 0
  pub stays_so : CanWake end → ⊥
  pub outcome : IsOutcome opening end Z

-- Z is what so many hands come to on the tree and the sheet with this budget, where the generator's draws from this seed, each modulo the
-- count of live hands, say which of them moves
pub record Scheduled (T : TreeValue) (G : Sheet) (hands budget seed : ℕ) (Z : Settled) : Type 0 where
  pub opening : Placement
  pub is_opening : IsOpening T G opening.points
  pub is_side : opening.side ≡ side_of G opening.points
  pub floor : ℕ
  pub is_floor : IsFloorSide T G floor
  pub after : ℕ
  pub scheduled : IsScheduled SeedTurns (record { tree = T; sheet = G }) opening floor hands budget seed after Z
