use Rattle.std.proofs.Common.{rules, arith}
use Rattle.bp_incumbent.proofs.Halts.{loads_allowed}
use Rattle.bp_incumbent.proofs.halt.HaltRule.load.Goals as goal

pub load-requires : goal.load-requires
load-requires c = (search rules, omega arith, loads_allowed c.args.table.now.key _ _ c.args.seat.now.me (search rules))
