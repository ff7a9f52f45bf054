-- A seat on each table: on which board it is, how `open` deals the numbers out, and how `close` takes all passes in.
use Rattle.std.specs.Prelude.{◌≡◌, ℕ, ◌+◌, List, [], ◌∷◌, All, length}
use Rattle.std.specs.List.{sum_by}
use Rattle.bp_incumbent.specs.Entries.{flag}
use Rattle.bp_incumbent.specs.Side.{side_view, unoffered, offers_of}
use Rattle.bp_incumbent.specs.Tickets.{ticket_view, undrawn, tickets_of}
use Rattle.bp_incumbent.specs.Halt.{halt_view, running, halts_in, reads_in}
use Rattle.bp_incumbent.specs.Board.{BoardId, PassView, IsCarried}
use Rattle.bp_incumbent.specs.declared.tickets.Ticket.{Ticket}
use Rattle.bp_incumbent.specs.declared.seats.Seats.{Seats}

abbrev pub board_of : Seats → BoardId
board_of s = record { side = s.side.table_id; tickets = s.tickets.table_id; halt = s.halt.table_id }

-- the seats stand for the passes from this number on, so many of them, which have done nothing
pub record IsDealing (number left opening : ℕ) (s : Seats) : Type 0 where
  pub side : s.side.me ≡ (side_view (unoffered number left) (opening ∷ []), [])
  pub tickets : s.tickets.me ≡ (ticket_view (undrawn number left), [])
  pub halt : s.halt.me ≡ (halt_view (running number left), [])

-- The seats stand for all passes but those that are left, and know what these did.
pub record HasTaken (s : Seats) (left all : List PassView) : Type 0 where
  pub side_held : length s.side.me.0.passes + length left ≡ length all
  pub tickets_held : length s.tickets.me.0.passes + length left ≡ length all
  pub halt_held : length s.halt.me.0.passes + length left ≡ length all
  pub offers : (h : ℕ → ℕ) → sum_by h (offers_of s.side.me.0) + sum_by (λ (p : PassView). sum_by h p.offers) left ≡ sum_by (λ (p : PassView). sum_by h p.offers) all
  pub seen : (h : ℕ → ℕ) → sum_by h s.side.me.0.seen + sum_by (λ (p : PassView). sum_by h p.seen) left ≡ sum_by (λ (p : PassView). sum_by h p.seen) all
  pub tickets : (h : Ticket → ℕ) → sum_by h (tickets_of s.tickets.me.0) + sum_by (λ (p : PassView). sum_by h p.tickets) left ≡ sum_by (λ (p : PassView). sum_by h p.tickets) all
  pub halts : halts_in s.halt.me.0 + sum_by (λ (p : PassView). flag p.halted) left ≡ sum_by (λ (p : PassView). flag p.halted) all
  pub reads : reads_in s.halt.me.0 + sum_by (λ (p : PassView). flag p.halt_read) left ≡ sum_by (λ (p : PassView). flag p.halt_read) all
  pub carried : All IsCarried left → All IsCarried all
