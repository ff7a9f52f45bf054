use Rattle.bp_floor.proofs.Choice.{better_trans, found_one, column_next}
use Rattle.bp_floor.proofs.best.best_with.Goals as goal

pub loop-i-preserved : goal.loop-i-preserved
loop-i-preserved c =
    let T = c.args.metric.now.tree in
    let G = c.args.metric.now.sheet in
    let old = c.loop-i.best in
    let new = c.better-best.result in
    let made = c.in_ok-floor_of.field-0 in
    record {
      found = found_one T G new old made c.loop-i.invariant.found c.in_ok-floor_of.ensures.found c.better-best.ensures.one;
      better = better_trans new old c.args.best c.better-best.ensures.best c.loop-i.invariant.better;
      best = column_next T G old new made c.args.j c.loop-i.i c.loop-i.invariant.best c.better-best.ensures.best c.in_ok-floor_of.ensures.is c.better-best.ensures.other;
    }
