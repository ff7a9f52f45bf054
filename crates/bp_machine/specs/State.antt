-- What a state of the machine is: its hands, each at a place of its turn, and the words that they share.
use Rattle.std.specs.Prelude.{◌≡◌, ◌≤◌, ◌-◌, ℕ, List, [], ◌∷◌, Option, None, Some, replicate, slice_get}
use Rattle.bp_base.specs.declared.point.Placement.{Placement}
use Rattle.bp_base.specs.declared.record.Record.{Record}
use Rattle.bp_base.specs.declared.record.Task.{Task}
use Rattle.bp_metric.specs.Metric.{MetricValue}
use Rattle.bp_machine.specs.declared.place.Place.{Place}
use Rattle.bp_machine.specs.declared.place.Place.TheVariants.{Ready}

-- One hand. Of its deque the last task is popped, and the first is stolen. The children of its last record that aren't placed yet
-- stand in `unplaced`.
pub record HandValue : Type 0 where
  pub place : Place
  pub deque : List Task
  pub kept : List Task
  pub unplaced : List Task
  pub known : ℕ
  pub records : List Record
  pub best : Option Placement
  pub empty_takes : ℕ

pub record StateValue : Type 0 where
  pub metric : MetricValue
  pub hands : List HandValue
  pub side : ℕ
  pub tickets : ℕ
  pub budget : ℕ
  pub floor : ℕ

-- hand number i, from 1 on
abbrev pub IsHand : StateValue → ℕ → HandValue → Type 0
IsHand S i h = (1 ≤ i) × (slice_get S.hands (i - 1) ≡ Some h)

-- a hand before its first event, with these tasks in its deque
abbrev pub fresh : ℕ → List Task → HandValue
fresh side tasks = record {
  place = Ready;
  deque = tasks;
  kept = [];
  unplaced = [];
  known = side;
  records = [];
  best = None;
  empty_takes = 0;
}

-- so many hands at the beginning, for this opening's side: the root stands in the first one's deque
abbrev pub begun_hands : ℕ → ℕ → List HandValue
begun_hands side n = fresh side ((record { path = []; bound = side }) ∷ []) ∷ replicate (n - 1) (fresh side [])

abbrev pub begun : MetricValue → ℕ → ℕ → ℕ → ℕ → StateValue
begun M side floor hands budget = record {
  metric = M;
  hands = begun_hands side hands;
  side = side;
  tickets = 0;
  budget = budget;
  floor = floor;
}
