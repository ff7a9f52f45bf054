-- The steps of the machine: which event a hand may take at which place, and what comes of it.
use Rattle.std.specs.Prelude.{◌≡◌, ◌≢◌, ◌⊎◌, ◌+◌, ◌-◌, ℕ, List, [], ◌∷◌, ◌++◌, Option, None, Some, if◌then◌else◌, length, min, nat_lt, slice_set}
use Rattle.bp_base.specs.declared.point.Placement.{Placement}
use Rattle.bp_base.specs.declared.record.Left.{Left}
use Rattle.bp_base.specs.declared.record.Left.TheVariants.{AtFloor, Spent, Idle}
use Rattle.bp_base.specs.declared.record.RecordKind.{RecordKind}
use Rattle.bp_base.specs.declared.record.RecordKind.TheVariants.{Split, Closed}
use Rattle.bp_base.specs.declared.record.Task.{Task}
use Rattle.bp_turn.specs.declared.examining.Turn.{Turn}
use Rattle.bp_turn.specs.Turns.{IsTurn}
use Rattle.bp_machine.specs.declared.event.Event.{Event}
use Rattle.bp_machine.specs.declared.event.Event.TheVariants.{Pop, Steal, Draw, Load, Examine, Offer, Push, Keep, Leave}
use Rattle.bp_machine.specs.declared.place.Place.{Place}
use Rattle.bp_machine.specs.declared.place.Place.TheVariants.{Ready, Taking, Trying, Holding, Drawn, Offering, Pushing, Leaving, Gone}
use Rattle.bp_machine.specs.State.{HandValue, StateValue, IsHand}

-- so many empty takes in a row, and a hand leaves
abbrev pub most_empty_takes : ℕ
most_empty_takes = 64

-- the state with another value of hand number i
abbrev pub with_hand : StateValue → ℕ → HandValue → StateValue
with_hand S i h = record S { hands = slice_set S.hands (i - 1) h }

-- a task comes into the hand
abbrev pub holds : HandValue → Task → HandValue
holds h t = record h { place = Holding t; empty_takes = 0 }

-- a take has given nothing, and nothing is kept
abbrev pub idles : HandValue → HandValue
idles h = record h {
  place = if nat_lt (h.empty_takes + 1) most_empty_takes then Ready else Leaving Idle;
  empty_takes = h.empty_takes + 1;
}

-- the end of a take: the last kept task comes into the hand where one is kept
abbrev pub EndsTake : HandValue → HandValue → Type 0
EndsTake h to =
    ((h.kept ≡ []) × (to ≡ idles h)) ⊎ ((rest : List Task) × (t : Task) × (h.kept ≡ rest ++ t ∷ []) × (to ≡ holds (record h { kept = rest }) t))

-- the hand after g of n hands, in rising order and round
abbrev pub next_hand : ℕ → ℕ → ℕ
next_hand n g = if nat_lt g n then g + 1 else 1

-- hand i of n found hand g's deque empty: it tries the next hand, or ends its take where that is itself
abbrev pub TriesNext : ℕ → ℕ → ℕ → HandValue → HandValue → Type 0
TriesNext n i g h to =
    ((next_hand n g ≡ i) × EndsTake h to) ⊎ ((next_hand n g ≢ i) × (to ≡ record h { place = Trying (next_hand n g) }))

-- the known side becomes the side word; at the floor's side or below it, the hand leaves
abbrev pub loaded : ℕ → ℕ → HandValue → HandValue
loaded side floor h = record h { known = side; place = if nat_lt floor side then Taking else Leaving AtFloor }

-- hand i of n pops: the last task of its deque comes into the hand
abbrev pub Pops : ℕ → ℕ → HandValue → HandValue → Type 0
Pops n i h to =
    ((h.deque ≡ []) × TriesNext n i i h to) ⊎ ((rest : List Task) × (t : Task) × (h.deque ≡ rest ++ t ∷ []) × (to ≡ holds (record h { deque = rest }) t))

-- hand i, which is h, steals from hand g, which is other: the first task of its deque comes into the hand
abbrev pub Steals : StateValue → ℕ → ℕ → HandValue → HandValue → StateValue → Type 0
Steals S i g h other to =
    ((other.deque ≡ []) × ((next : HandValue) × TriesNext (length S.hands) i g h next × (to ≡ with_hand S i next)))
    ⊎ ((t : Task) × (rest : List Task) × (other.deque ≡ t ∷ rest) × (to ≡ with_hand (with_hand S g (record other { deque = rest })) i (holds h t)))

-- the ticket is the ticket word, which rises; a ticket past the budget is of no use
abbrev pub drawn : ℕ → ℕ → HandValue → Task → HandValue
drawn ticket budget h t =
    if nat_lt ticket budget then record h { place = Drawn t ticket } else record h { kept = h.kept ++ t ∷ []; place = Leaving Spent }

-- where a hand stands after a record of this kind: it offers what it solved, it pushes the children of a split
abbrev pub place_after : RecordKind → Option Placement → Place
place_after (Split p) placement = Pushing
place_after (Closed claim) None = Ready
place_after (Closed claim) (Some placement) = Offering placement

abbrev pub examined : HandValue → Turn → List Task → HandValue
examined h turn children = record h {
  place = place_after turn.record.kind turn.placement;
  unplaced = children;
  records = h.records ++ turn.record ∷ [];
}

-- the one of lesser side, and the earlier one on ties
abbrev pub better : Option Placement → Placement → Placement
better None p = p
better (Some b) p = if nat_lt p.side b.side then p else b

abbrev pub offered : HandValue → Placement → HandValue
offered h p = record h { place = Ready; best = Some (better h.best p) }

-- after the first child a hand is ready again
abbrev pub place_with : List Task → Place
place_with [] = Ready
place_with (t ∷ ts) = Pushing

-- the last child that isn't placed goes to the back of the deque
abbrev pub Pushes : HandValue → HandValue → Type 0
Pushes h to =
    (rest : List Task) × (t : Task) × (h.unplaced ≡ rest ++ t ∷ []) × (to ≡ record h { place = place_with rest; unplaced = rest; deque = h.deque ++ t ∷ [] })

-- or into the kept list
abbrev pub Keeps : HandValue → HandValue → Type 0
Keeps h to =
    (rest : List Task) × (t : Task) × (h.unplaced ≡ rest ++ t ∷ []) × (to ≡ record h { place = place_with rest; unplaced = rest; kept = h.kept ++ t ∷ [] })

-- The table: the place of its hand at which each event stands, and what comes of it. No hand steals from itself.

abbrev pub StepsAt : StateValue → HandValue → Event → StateValue → Type 0
StepsAt S h (Load i) to = (h.place ≡ Ready) × (to ≡ with_hand S i (loaded S.side S.floor h))
StepsAt S h (Pop i) to = (h.place ≡ Taking) × ((next : HandValue) × Pops (length S.hands) i h next × (to ≡ with_hand S i next))
StepsAt S h (Steal i g) to = (h.place ≡ Trying g) × (g ≢ i) × ((other : HandValue) × IsHand S g other × Steals S i g h other to)
StepsAt S h (Draw i) to =
    (t : Task) × (h.place ≡ Holding t) × (to ≡ record (with_hand S i (drawn S.tickets S.budget h t)) { tickets = S.tickets + 1 })
StepsAt S h (Examine i) to =
    (t : Task) × (ticket : ℕ) × (h.place ≡ Drawn t ticket)
    × ((turn : Turn) × (children : List Task) × IsTurn S.metric.tree S.metric.sheet t h.known ticket children turn × (to ≡ with_hand S i (examined h turn children)))
StepsAt S h (Offer i) to = (p : Placement) × (h.place ≡ Offering p) × (to ≡ record (with_hand S i (offered h p)) { side = min S.side p.side })
StepsAt S h (Push i) to = (h.place ≡ Pushing) × ((next : HandValue) × Pushes h next × (to ≡ with_hand S i next))
StepsAt S h (Keep i) to = (h.place ≡ Pushing) × ((next : HandValue) × Keeps h next × (to ≡ with_hand S i next))
StepsAt S h (Leave i) to = (left : Left) × (h.place ≡ Leaving left) × (to ≡ with_hand S i (record h { place = Gone left }))

abbrev pub hand_of : Event → ℕ
hand_of (Pop i) = i
hand_of (Steal i g) = i
hand_of (Draw i) = i
hand_of (Load i) = i
hand_of (Examine i) = i
hand_of (Offer i) = i
hand_of (Push i) = i
hand_of (Keep i) = i
hand_of (Leave i) = i

-- the event leads from one state to the other
abbrev pub Steps : StateValue → Event → StateValue → Type 0
Steps S event to = (h : HandValue) × IsHand S (hand_of event) h × StepsAt S h event to
