use Rattle.std.proofs.Common.{◌∙◌, ap}
use Rattle.std.proofs.lemmas.List.{take_all}
use Rattle.bp_metric.specs.Opening.{side_of}
use Rattle.bp_revise.proofs.Starts.{side_more}
use Rattle.bp_revise.proofs.starting.side_of.Goals as goal

pub loop-point-preserved : goal.loop-point-preserved
loop-point-preserved c =
    side_more c.args.sheet c.args.points.now c.loop-point.point-index _ c.loop-point.side c.reach_on.result c.max-side.result c.loop-point-test.true c.loop-point.invariant c.reach_on.ensures c.max-side.ensures

pub returns : goal.returns
returns c = c.loop-point.invariant ∙ ap (side_of c.args.sheet) (take_all c.loop-point.point-index c.args.points.now c.loop-point-test.false)
