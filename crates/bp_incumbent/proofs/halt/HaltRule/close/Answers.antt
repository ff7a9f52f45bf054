use Rattle.bp_incumbent.proofs.Halts.{ends_read}
use Rattle.bp_incumbent.proofs.halt.HaltRule.close.Goals as goal

pub returns : goal.returns
returns c = record { read = ends_read c.args.table.shared.key _ c.args.seat.me.0 _ _ c.close_with.ensures.values.2 c.requires.all }
