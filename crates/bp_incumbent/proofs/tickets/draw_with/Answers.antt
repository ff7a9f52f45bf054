use Rattle.std.proofs.Common.{rules, arith}
use Rattle.bp_incumbent.proofs.Draws.{draws_allowed}
use Rattle.bp_incumbent.proofs.tickets.draw_with.Goals as goal

pub fetch_add-requires : goal.fetch_add-requires
fetch_add-requires g c = (search rules, omega arith, draws_allowed c.args.table.now.key _ _ _ c.args.seat.now.me c.requires.seat c.requires.table.2 c.requires.table.3)
