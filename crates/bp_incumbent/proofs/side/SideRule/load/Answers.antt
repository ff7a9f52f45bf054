use Rattle.std.proofs.Common.{rules, arith}
use Rattle.bp_incumbent.proofs.Sides.{sees_allowed}
use Rattle.bp_incumbent.proofs.side.SideRule.load.Goals as goal

pub load-requires : goal.load-requires
load-requires c = (search rules, omega arith, sees_allowed c.args.table.now.key _ _ c.args.seat.now.me)
