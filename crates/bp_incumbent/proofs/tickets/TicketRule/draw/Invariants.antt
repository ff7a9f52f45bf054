use Rattle.bp_incumbent.proofs.tickets.TicketRule.draw.Given as goal

abbrev pub ghosts-draw_with : goal.ghosts-draw_with
ghosts-draw_with a = record { side = a.side }
