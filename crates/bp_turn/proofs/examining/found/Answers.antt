use Rattle.std.proofs.Common.{sym, subst}
use Rattle.bp_turn.specs.Turns.{AreLowPoints}
use Rattle.bp_metric.specs.Valid.{Valid}
use Rattle.bp_turn.proofs.Turned.{are_low_points, placed_valid}
use Rattle.bp_turn.proofs.examining.found.Goals as goal

pub returns-in_ok-points-in-Solved-clause-found : goal.returns-in_ok-points-in-Solved-clause-found
returns-in_ok-points-in-Solved-clause-found c =
    let T = c.args.metric.now.tree in
    let G = c.args.metric.now.sheet in
    let outcome = rw c.in-Solved.is at c.requires.outcome in (
      outcome.0,
      outcome.1,
      subst (AreLowPoints T c.args.path.now) (sym c.in_ok-points-in-Solved.ensures) (are_low_points T G c.args.path.now c.args.least.now c.requires.least),
    )

pub returns-in_ok-points-in-Solved-clause-valid : goal.returns-in_ok-points-in-Solved-clause-valid
returns-in_ok-points-in-Solved-clause-valid c =
    let T = c.args.metric.now.tree in
    let G = c.args.metric.now.sheet in
    let outcome = rw c.in-Solved.is at c.requires.outcome in
    subst (Valid T G 1 c.in-Solved.side) (sym c.in_ok-points-in-Solved.ensures) (placed_valid T G c.args.path.now c.args.least.now c.args.bound c.in-Solved.side c.requires.bound c.requires.least outcome.1)
