-- What contracts see of a board, its passes and its notes, and what each call does to a pass.
use Rattle.std.specs.Prelude.{ℕ, Bool, true, false, ◌||◌, List, [], ◌∷◌, ◌++◌, All}
use Rattle.std.specs.List.{Contains}
use Rattle.atomic_table.specs.Seated.{TableId}
use Rattle.bp_incumbent.specs.declared.tickets.Ticket.{Ticket}
use Rattle.bp_incumbent.specs.Tickets.{ticket}

-- which board it is
pub record BoardId : Type 0 where
  pub side : TableId
  pub tickets : TableId
  pub halt : TableId

-- its opening side, the ticket from which on a pass is spent, and how many passes it has
pub record BoardView : Type 0 where
  pub id : BoardId
  pub opening : ℕ
  pub limit : ℕ
  pub passes : ℕ

-- A pass: the sides that it has seen and offered, and its tickets, each with a side beside it, all in order; what its last call of `side` gave, and whether that is fresh; whether it has halted, and whether it has read halt as set.
pub record PassView : Type 0 where
  pub board : BoardId
  pub number : ℕ
  pub seen : List ℕ
  pub offers : List ℕ
  pub tickets : List Ticket
  pub last : ℕ
  pub fresh : Bool
  pub halted : Bool
  pub halt_read : Bool

-- the side table of a note's board, and the sides that the noted pass had seen or offered
pub record NoteView : Type 0 where
  pub side : TableId
  pub seen : List ℕ

abbrev pub new_pass : BoardId → ℕ → ℕ → PassView
new_pass board number opening = record {
  board = board;
  number = number;
  seen = opening ∷ [];
  offers = [];
  tickets = [];
  last = opening;
  fresh = false;
  halted = false;
  halt_read = false;
}

-- the pass has loaded this side
abbrev pub saw : PassView → ℕ → PassView
saw p side = record p { seen = p.seen ++ side ∷ []; last = side; fresh = true }

-- the pass has offered a side, and found another before it
abbrev pub offered : PassView → ℕ → ℕ → PassView
offered p side found = record p { seen = p.seen ++ found ∷ []; offers = p.offers ++ side ∷ [] }

-- the pass has drawn a ticket, beside which stands the side that it loaded last
abbrev pub drew : PassView → ℕ → PassView
drew p number = record p { tickets = p.tickets ++ ticket number p.last ∷ []; fresh = false }

abbrev pub halted : PassView → PassView
halted p = record p { halted = true }

-- the pass has read halt, as set or not
abbrev pub read_halt : PassView → Bool → PassView
read_halt p set = record p { halt_read = p.halt_read || set }

abbrev pub noted : PassView → NoteView
noted p = record { side = p.board.side; seen = p.seen ++ p.offers }

-- the pass was told of the sides of a note, and has loaded one
abbrev pub met : PassView → List ℕ → ℕ → PassView
met p sides side = record p { seen = (p.seen ++ sides) ++ side ∷ [] }

-- the side beside each ticket is one that the pass has seen
abbrev pub IsCarried : PassView → Type 0
IsCarried p = All (λ (t : Ticket). Contains p.seen t.side) p.tickets
