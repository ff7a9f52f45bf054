-- How a pass is kept.
use Rattle.std.specs.Prelude.{◌≡◌, Bool, false, List, [], ◌∷◌, All}
use Rattle.std.specs.List.{Contains}
use Rattle.bp_incumbent.specs.declared.pass.Pass.TheInside.{Inside}
use Rattle.bp_incumbent.specs.declared.side.Offers.{Offers}
use Rattle.bp_incumbent.specs.declared.tickets.Ticket.{Ticket}
use Rattle.bp_incumbent.specs.declared.tickets.Drawn.{Drawn}
use Rattle.bp_incumbent.specs.declared.halt.Halts.{Halts}
use Rattle.bp_incumbent.specs.Side.{offers_of}
use Rattle.bp_incumbent.specs.Tickets.{tickets_of}
use Rattle.bp_incumbent.specs.Seats.{board_of}
use Rattle.bp_incumbent.specs.Board.{PassView}

abbrev pub first_halted : List Halts → Bool
first_halted [] = false
first_halted (h ∷ hs) = h.halted

abbrev pub first_read : List Halts → Bool
first_read [] = false
first_read (h ∷ hs) = h.was_read

abbrev pub pass_view : Inside → PassView
pass_view p = record {
  board = board_of p.seats;
  number = p.number;
  seen = p.seats.side.me.0.seen;
  offers = offers_of p.seats.side.me.0;
  tickets = tickets_of p.seats.tickets.me.0;
  last = p.last;
  fresh = p.fresh;
  halted = first_halted p.seats.halt.me.0.passes;
  halt_read = first_read p.seats.halt.me.0.passes;
}

-- The seats hold no slot and stand for this pass alone. What was loaded last, and the side beside each ticket, was seen.
pub record IsPass (p : Inside) : Type 0 where
  pub no_slots : (p.seats.side.me.1 ≡ []) × (p.seats.tickets.me.1 ≡ []) × (p.seats.halt.me.1 ≡ [])
  pub one : (o : Offers) × (p.seats.side.me.0.passes ≡ o ∷ []) × (o.number ≡ p.number)
  pub one_drawn : (d : Drawn) × (p.seats.tickets.me.0.passes ≡ d ∷ []) × (d.number ≡ p.number)
  pub one_halts : (h : Halts) × (p.seats.halt.me.0.passes ≡ h ∷ []) × (h.number ≡ p.number)
  pub last_seen : Contains p.seats.side.me.0.seen p.last
  pub carried : All (λ (t : Ticket). Contains p.seats.side.me.0.seen t.side) (tickets_of p.seats.tickets.me.0)
