use Rattle.std.proofs.Common.{sym, subst}
use Rattle.bp_machine.specs.Runs.{ArePicked}
use Rattle.bp_machine.proofs.Ended.{has_best, is_outcome, is_settled, no_wake}
use Rattle.bp_machine.proofs.settling.settle.Goals as goal

pub picked-requires : goal.picked-requires
picked-requires c =
    let M = c.args.metric.now in
    has_best M.tree M.sheet c.args.state c.requires.facts c.requires.orderly c.requires.all_left c.args.opening c.requires.opening c.requires.side

pub returns-in_err-points-clause-stays_so : goal.returns-in_err-points-clause-stays_so
returns-in_err-points-clause-stays_so c = no_wake c.args.metric.now.tree c.args.metric.now.sheet c.args.state c.requires.facts c.requires.orderly c.requires.all_left

pub returns-in_err-gather-clause-stays_so : goal.returns-in_err-gather-clause-stays_so
returns-in_err-gather-clause-stays_so c = no_wake c.args.metric.now.tree c.args.metric.now.sheet c.args.state c.requires.facts c.requires.orderly c.requires.all_left

pub returns-clause-stays_so : goal.returns-clause-stays_so
returns-clause-stays_so c = no_wake c.args.metric.now.tree c.args.metric.now.sheet c.args.state c.requires.facts c.requires.orderly c.requires.all_left

pub returns-clause-settled : goal.returns-clause-settled
returns-clause-settled c =
    let M = c.args.metric.now in
    is_settled M.tree M.sheet c.args.state c.requires.facts c.requires.orderly c.requires.all_left c.args.opening c.requires.opening c.requires.side c.in_ok-gather.field-0 c.in_ok-gather.ensures.records c.in_ok-gather.ensures.left c.in_ok-gather.ensures.side c.in_ok-gather.ensures.examined (subst (ArePicked c.args.opening c.args.state) (sym c.in_ok-gather.ensures.points) c.in_ok-points.ensures) c.requires.floor

pub returns-clause-outcome : goal.returns-clause-outcome
returns-clause-outcome c =
    let M = c.args.metric.now in
    is_outcome M.tree M.sheet c.args.state c.requires.facts c.requires.orderly c.requires.all_left c.args.opening c.requires.opening c.requires.side c.in_ok-gather.field-0 c.in_ok-gather.ensures.records c.in_ok-gather.ensures.left c.in_ok-gather.ensures.side c.in_ok-gather.ensures.examined (subst (ArePicked c.args.opening c.args.state) (sym c.in_ok-gather.ensures.points) c.in_ok-points.ensures)
