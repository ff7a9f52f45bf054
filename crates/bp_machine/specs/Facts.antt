-- The facts that a state of the machine keeps: no branch is lost or doubled, the side is the least found, each ticket is drawn once, all
-- bounds lie between the side and the opening's, all records are sound, and the best placements are valid. Beside these six, a hand that
-- may take has taken nothing fewer than 64 times in a row, and the ticket word exceeds the budget by no more than one for each spent hand.
use Rattle.std.specs.Prelude.{◌≡◌, ◌⊎◌, ◌<◌, ◌≤◌, ◌+◌, ◌-◌, ℕ, List, [], ◌∷◌, ◌++◌, Some, All, Any, MatchOption, length, map, min, slice_get, take}
use Rattle.std.specs.List.{flat_map, range_with_len, sum_by}
use Rattle.bp_base.specs.declared.point.Placement.{Placement}
use Rattle.bp_base.specs.declared.point.Sheet.{Sheet}
use Rattle.bp_base.specs.declared.record.Record.{Record}
use Rattle.bp_base.specs.declared.record.Task.{Task}
use Rattle.bp_base.specs.declared.record.Left.TheVariants.{Spent}
use Rattle.bp_base.specs.Bags.{AreSame}
use Rattle.bp_base.specs.Tree.{TreeValue}
use Rattle.bp_metric.specs.Opening.{IsOpeningSide}
use Rattle.bp_metric.specs.Records.{IsBalanced, IsSound}
use Rattle.bp_metric.specs.Valid.{Valid}
use Rattle.bp_core.specs.Settled.{Solves}
use Rattle.bp_core.specs.Underway.{IsGiven, IsLeft}
use Rattle.bp_turn.specs.Turns.{AreLowPoints}
use Rattle.bp_machine.specs.declared.place.Place.{Place}
use Rattle.bp_machine.specs.declared.place.Place.TheVariants.{Holding, Drawn, Offering, Pushing, Leaving, Gone}
use Rattle.bp_machine.specs.Steps.{most_empty_takes}
use Rattle.bp_machine.specs.State.{HandValue, StateValue}

-- the task in hand
abbrev pub held : Place → List Task
held (Holding t) = t ∷ []
held (Drawn t ticket) = t ∷ []
held place = []

-- the ticket in hand
abbrev pub held_ticket : Place → List ℕ
held_ticket (Drawn t ticket) = ticket ∷ []
held_ticket place = []

-- a hand's tasks: in its deque, kept, children not yet placed, and in hand
abbrev pub tasks_of : HandValue → List Task
tasks_of h = h.deque ++ h.kept ++ h.unplaced ++ held h.place

abbrev pub tickets_of : HandValue → List ℕ
tickets_of h = map (λ (r : Record). r.ticket) h.records ++ held_ticket h.place

-- a hand's records, but for the one whose side it hasn't offered yet
abbrev pub told : HandValue → Place → List Record
told h (Offering p) = take (length h.records - 1) h.records
told h place = h.records

abbrev pub all_records : StateValue → List Record
all_records S = flat_map (λ (h : HandValue). h.records) S.hands

abbrev pub all_tasks : StateValue → List Task
all_tasks S = flat_map tasks_of S.hands

abbrev pub all_tickets : StateValue → List ℕ
all_tickets S = flat_map tickets_of S.hands

abbrev pub all_told : StateValue → List Record
all_told S = flat_map (λ (h : HandValue). told h h.place) S.hands

-- a best placement: valid at its own side, which is no less than the side word
abbrev pub IsBest : TreeValue → Sheet → ℕ → Placement → Type 0
IsBest T G side p = (side ≤ p.side) × Valid T G 1 p.side p.points

-- what a hand holds at its place: an offer is that of its last record, and there are children to place exactly at Pushing
abbrev pub IsPlaced : TreeValue → Sheet → HandValue → Place → Type 0
IsPlaced T G h (Offering p) =
    (h.unplaced ≡ []) × Valid T G 1 p.side p.points
    × ((r : Record) × (slice_get h.records (length h.records - 1) ≡ Some r) × Solves T G p.side r × AreLowPoints T r.path p.points)
IsPlaced T G h Pushing = 0 < length h.unplaced
IsPlaced T G h place = h.unplaced ≡ []

-- so few empty takes in a row, while a hand may take
abbrev pub HasTakesLeft : ℕ → Place → Type 0
HasTakesLeft takes (Leaving left) = takes ≤ most_empty_takes
HasTakesLeft takes (Gone left) = takes ≤ most_empty_takes
HasTakesLeft takes place = takes < most_empty_takes

-- 1 for a hand that has left, or is about to, since the budget is spent
abbrev pub spends : Place → ℕ
spends (Leaving Spent) = 1
spends (Gone Spent) = 1
spends place = 0

-- what holds of each hand, for the opening's side u
pub record HasHandFacts (T : TreeValue) (G : Sheet) (u side : ℕ) (h : HandValue) : Type 0 where
  pub known_no_less : side ≤ h.known
  pub known_no_more : h.known ≤ u
  pub sound : All (IsSound T G side) h.records
  pub given : All IsGiven h.records
  pub tasks : All (IsLeft T G side) (tasks_of h)
  pub best : MatchOption h.best (side ≤ u) (IsBest T G side)
  pub placed : IsPlaced T G h h.place
  pub takes : HasTakesLeft h.empty_takes h.place

-- the side word is the least of the opening's side and of what the solved paths force whose sides are offered
pub record IsLeastSide (T : TreeValue) (G : Sheet) (u side : ℕ) (records : List Record) : Type 0 where
  pub no_more : side ≤ u
  pub least : (v : ℕ) → Any (Solves T G v) records → side ≤ v
  pub reached : (side ≡ u) ⊎ Any (Solves T G side) records

-- some hand's best placement has this side
abbrev pub IsReached : ℕ → HandValue → Type 0
IsReached side h = (p : Placement) × (h.best ≡ Some p) × (p.side ≡ side)

pub record HasFacts (T : TreeValue) (G : Sheet) (S : StateValue) : Type 0 where
  pub opening_side : ℕ
  pub is_opening_side : IsOpeningSide T G opening_side
  pub conservation : IsBalanced T G (all_records S) (all_tasks S)
  pub least_side : IsLeastSide T G opening_side S.side (all_told S)
  pub tickets : AreSame (all_tickets S) (range_with_len 0 (min S.tickets S.budget))
  pub word : S.tickets ≤ S.budget + sum_by (λ (h : HandValue). spends h.place) S.hands
  pub hands : All (HasHandFacts T G opening_side S.side) S.hands
  pub best : (S.side ≡ opening_side) ⊎ Any (IsReached S.side) S.hands
