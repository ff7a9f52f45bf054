use Rattle.std.proofs.Common.{rules, arith}
use Rattle.bp_incumbent.proofs.Sides.{lowers_allowed}
use Rattle.bp_incumbent.proofs.side.SideRule.lower.Goals as goal

pub fetch_min-requires : goal.fetch_min-requires
fetch_min-requires c = (search rules, omega arith, lowers_allowed c.args.table.now.key _ _ c.args.side c.args.seat.now.me (search rules))
