use Rattle.bp_regions.specs.Balls.{ball_of}
use Rattle.bp_regions.proofs.Rows.{row_more}
use Rattle.bp_regions.proofs.ball.add_row.Goals as goal

pub loop-leaf-preserved : goal.loop-leaf-preserved
loop-leaf-preserved c =
    row_more (ball_of c.args.metric.now.tree c.args.points.now c.args.edge) c.args.balls.now.items c.loop-leaf.balls.items c.push.new.self.items c.ball_of.result c.loop-leaf.leaf c.loop-leaf.auto.leaf c.loop-leaf.invariant c.in_ok-push.ensures.items c.ball_of.ensures
