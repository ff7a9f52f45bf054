use Rattle.std.proofs.Common.{ℕ, subst, ap}
use Rattle.bp_base.specs.declared.point.Point.{Point}
use Rattle.bp_opening.specs.Sums.{Takes}
use Rattle.bp_opening.proofs.Firsts.{at_xy, row_more}
use Rattle.bp_opening.proofs.first.least_in_column.Goals as goal

pub loop-row-preserved : goal.loop-row-preserved
loop-row-preserved c =
    let T = c.args.metric.now.tree in
    let G = c.args.metric.now.sheet in
    let P = c.args.points.now in
    let old = c.loop-row.best in
    let new = c.better-best.result in
    let takes = subst (λ (y : ℕ). Takes T G P old (at_xy c.args.x y) new) (ap (λ (p : Point). p.y) c.sum_beside.ensures) c.better-best.ensures.either in
    let more = row_more T G P c.args.start old new c.args.x c.loop-row.row c.loop-row.invariant.no_later c.loop-row.invariant.least takes in
    record { stands = c.better-best.ensures.stands; no_later = more.0; least = more.1 }
