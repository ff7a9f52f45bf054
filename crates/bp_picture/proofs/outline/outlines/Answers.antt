use Rattle.bp_picture.specs.Outlines.{IsOutline}
use Rattle.bp_picture.proofs.Grown.{one_more}
use Rattle.bp_picture.proofs.outline.outlines.Goals as goal

pub loop-edge-preserved : goal.loop-edge-preserved
loop-edge-preserved c =
    one_more (IsOutline c.args.regions.now) c.loop-edge.outlines.items c.in_ok-outline.outline c.loop-edge.edge c.loop-edge.invariant.0 c.push.new.self.items c.in_ok-push.ensures.items c.loop-edge.invariant.1 c.in_ok-outline.ensures
