use Rattle.std.proofs.Common.{arith}
use Rattle.std.proofs.lemmas.Result.{IfOk-weaker}
use Rattle.bp_solve.proofs.Proven.{opening_best, plain_less}
use Rattle.bp_solve.proofs.solving.solve.Goals as goal

pub plain-requires-clause-placement : goal.plain-requires-clause-placement
plain-requires-clause-placement c =
    let o = c.in_ok-opening.ensures in
    opening_best c.args.metric.now.tree c.args.metric.now.sheet c.in_ok-opening.opening c.one_opening.ensures o.opening o.side o.valid o.small

pub returns-then-opening-floor : goal.returns-then-opening-floor
returns-then-opening-floor c =
    let e = c.in_ok-certificate.ensures in
    IfOk-weaker c.told.result _ _
    (λ s all. all c.args.budget (omega (arith, c.if-opening-floor.true, e.side.0, e.side.1, plain_less c.args.metric.now c.law_of_certificates.ensures.valid c.law_of_certificates.ensures.none_below c.law_of_certificates.ensures.bound c.in_ok-certificate.certificate e.plain))) c.told.ensures

pub searched-requires-clause-opening : goal.searched-requires-clause-opening
searched-requires-clause-opening c =
    let o = c.in_ok-opening.ensures in
    opening_best c.args.metric.now.tree c.args.metric.now.sheet c.in_ok-opening.opening c.one_opening.ensures o.opening o.side o.valid o.small
