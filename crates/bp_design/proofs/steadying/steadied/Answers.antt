use Rattle.std.proofs.Common.{subst}
use Rattle.bp_steady.specs.Searching.{IsSteadied as IsAnswered}
use Rattle.bp_design.proofs.SteadyPoints.{made_steady}
use Rattle.bp_design.proofs.steadying.steadied.Goals as goal

pub returns-in-Points : goal.returns-in-Points
returns-in-Points c =
    let T = c.args.metric.now.tree in
    let G = c.args.metric.now.sheet in
    let D = c.args.document in
    made_steady c.law_of_checked_texts.ensures.short T G D c.in-Points.points
    (subst (IsAnswered T G D.side c.args.budget) c.in-Points.is c.in_ok-points.ensures)
