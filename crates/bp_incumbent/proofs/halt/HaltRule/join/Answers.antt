use Rattle.std.proofs.Common.{rules, arith}
use Rattle.bp_incumbent.proofs.Halts.{adds}
use Rattle.bp_incumbent.proofs.halt.HaltRule.join.Goals as goal

pub join_seat-requires : goal.join_seat-requires
join_seat-requires c = (search rules, search rules, search rules, omega arith, adds c.args.table.now.key _ c.args.seat.now.me.0 _ c.args.other.me.0)
