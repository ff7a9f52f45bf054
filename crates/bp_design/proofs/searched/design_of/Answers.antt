use Rattle.bp_design.proofs.Replays.{told_joined}
use Rattle.bp_design.proofs.Searches.{can_be_told, is_searched, one_side}
use Rattle.bp_design.proofs.searched.design_of.Goals as goal

pub document_of-requires-clause-settled : goal.document_of-requires-clause-settled
document_of-requires-clause-settled c =
    let s = c.requires.settled in
    can_be_told c.args.metric.now.tree c.leaves-leaves.ensures.metric.tree c.args.metric.now.sheet c.args.settled (c.law_of_left.ensures s.0 c.args.settled s.2) c.args.floor (one_side c.args.metric.now.tree c.args.metric.now.sheet c.one_opening.ensures) c.requires.above s.0 s.2 s.1

pub returns-clause-searched : goal.returns-clause-searched
returns-clause-searched c = λ B settled.
    is_searched c.args.metric.now.tree c.leaves-leaves.ensures.metric.tree c.args.metric.now.sheet c.args.settled (c.law_of_left.ensures B c.args.settled settled) c.args.floor (one_side c.args.metric.now.tree c.args.metric.now.sheet c.one_opening.ensures) c.requires.above B settled c.requires.floor c.in_ok-document.document c.in_ok-document.ensures.told c.in_ok-document.ensures.checks c.in_ok-document.ensures.ranges

pub returns-clause-told : goal.returns-clause-told
returns-clause-told c = told_joined c.args.metric.now.tree c.args.metric.now.sheet c.args.settled c.args.floor c.in_ok-document.document c.in_ok-document.ensures.told
