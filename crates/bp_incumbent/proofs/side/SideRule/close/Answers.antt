use Rattle.bp_incumbent.proofs.Sides.{ends_least, ends_seen}
use Rattle.bp_incumbent.proofs.side.SideRule.close.Goals as goal

pub returns-clause-least : goal.returns-clause-least
returns-clause-least c = ends_least c.args.table.shared.key _ c.args.seat.me.0 _ _ _ c.close_with-closed.ensures.values.2 c.requires.all c.word-word.ensures

pub returns-clause-seen : goal.returns-clause-seen
returns-clause-seen c = ends_seen c.args.table.shared.key _ c.args.seat.me.0 _ _ _ c.close_with-closed.ensures.values.2 c.requires.all c.word-word.ensures
