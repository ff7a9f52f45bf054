use Rattle.std.proofs.Common.{rules, arith}
use Rattle.bp_incumbent.proofs.Halts.{sets_allowed}
use Rattle.bp_incumbent.proofs.halt.HaltRule.set.Goals as goal

pub fetch_or-requires : goal.fetch_or-requires
fetch_or-requires c = (search rules, omega arith, sets_allowed c.args.table.now.key _ _ c.args.seat.now.me (search rules))
