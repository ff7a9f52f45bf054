use Rattle.std.proofs.Common.{rules, arith}
use Rattle.bp_incumbent.proofs.Sides.{copies}
use Rattle.bp_incumbent.proofs.side.SideRule.copy.Goals as goal

pub split_seat-requires : goal.split_seat-requires
split_seat-requires c = (search rules, omega arith, copies c.args.table.now.key _ c.args.seat.now.me.0)
