use Rattle.std.proofs.Common.{◌<◌, refl, ap, ◌∙◌}
use Rattle.bp_incumbent.specs.declared.tickets.Ticket.{Ticket}
use Rattle.bp_incumbent.specs.Tickets.{tickets_of}
use Rattle.bp_incumbent.proofs.Passes.{with_tickets, of_drawn, all_of, spent_after}
use Rattle.bp_incumbent.proofs.board.Board.draw.Goals as goal

pub invariant_of-pass : goal.invariant_of-pass
invariant_of-pass c = with_tickets c.pass.inside _ c.draw-ticket.result c.pass.invariant refl refl refl refl c.draw-ticket.ensures.seat.1

pub returns-clause-rises : goal.returns-clause-rises
returns-clause-rises c = rw (← c.pass.view_is) (all_of (λ (t : Ticket). t.number < c.draw-ticket.result) _ _ c.pass.invariant.one_drawn.1 c.draw-ticket.ensures.rises)

pub returns-clause-spent : goal.returns-clause-spent
returns-clause-spent c = spent_after _ c.draw-ticket.result c.pass.inside.last _ _ (ap (λ m. tickets_of m.0) c.draw-ticket.ensures.seat.1 ∙ of_drawn _ _ _ _ c.pass.invariant.one_drawn.1)
