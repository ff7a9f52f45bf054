-- All hands are back: what they have done together, what the pool had left, and what the board came to.
use Rattle.std.specs.Prelude.{ℕ, ◌≤◌, min, List, [], ◌∷◌, ◌++◌, map, All}
use Rattle.std.specs.List.{range_with_len}
use Rattle.bp_base.specs.declared.point.Point.{Point}
use Rattle.bp_base.specs.declared.point.Sheet.{Sheet}
use Rattle.bp_base.specs.declared.record.Record.{Record}
use Rattle.bp_base.specs.declared.record.Settled.{Settled}
use Rattle.bp_base.specs.declared.record.Task.{Task}
use Rattle.bp_base.specs.Bags.{AreSame}
use Rattle.bp_base.specs.Tree.{TreeValue}
use Rattle.bp_metric.specs.Opening.{IsOpeningSide}
use Rattle.bp_incumbent.specs.declared.tickets.Ticket.{Ticket}
use Rattle.bp_incumbent.specs.Side.{IsLeast}
use Rattle.bp_workers.specs.Worked.{IsWorked}

-- what all hands have done together
pub record Deeds : Type 0 where
  pub taken : List Task
  pub pushed : List Task
  pub records : List Record
  pub kept : List Task
  pub tickets : List Ticket
  pub offers : List ℕ

-- the task of the root: the empty path, and the opening's side to beat
abbrev pub root : ℕ → Task
root opening_side = record { path = []; bound = opening_side }

abbrev pub number_of : Ticket → ℕ
number_of t = t.number

-- What they took and what the pool has left are together the root and what they pushed. The side is the least of the opening's and all offers, and
-- no side beside a ticket is below it. The tickets are the numbers below how many were drawn, each once.
pub record IsGathered (T : TreeValue) (G : Sheet) (limit : ℕ) (d : Deeds) (left : List Task) (opening_side side drawn : ℕ) : Type 0 where
  pub opening : IsOpeningSide T G opening_side
  pub worked : IsWorked T G limit d.taken d.pushed d.records d.kept d.tickets d.offers
  pub pool : AreSame (root opening_side ∷ d.pushed) (d.taken ++ left)
  pub least : IsLeast side opening_side d.offers
  pub seen : All (λ (t : Ticket). side ≤ t.side) d.tickets
  pub numbers : AreSame (map number_of d.tickets) (range_with_len 0 drawn)

-- what the search has come to then: as many were examined as there are tickets below the limit
abbrev pub come_to : ℕ → Deeds → List Task → ℕ → ℕ → List Point → Settled
come_to limit d left side drawn points = record {
  records = d.records;
  left = left ++ d.kept;
  side = side;
  points = points;
  examined = min drawn limit;
}
