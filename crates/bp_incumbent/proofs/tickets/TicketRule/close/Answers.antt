use Rattle.bp_incumbent.proofs.Draws.{ends_once}
use Rattle.bp_incumbent.proofs.tickets.TicketRule.close.Goals as goal

pub returns : goal.returns
returns c = record { once = ends_once c.args.table.shared.key _ c.args.seat.me.0 _ _ _ c.close_with-closed.ensures.values.2 c.requires.all c.word-word.ensures }
