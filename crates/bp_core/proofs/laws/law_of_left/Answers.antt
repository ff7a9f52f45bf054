use Rattle.bp_core.proofs.Left.{left_stated}
use Rattle.bp_core.proofs.laws.law_of_left.Goals as goal

pub returns : goal.returns
returns c B Z settled =
    left_stated c.args.metric.now.tree c.args.metric.now.sheet c.one_opening.ensures c.law_of_children.ensures.stated Z.side Z.records Z.left settled.balanced settled.sound
