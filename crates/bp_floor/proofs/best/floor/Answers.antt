use Rattle.bp_floor.proofs.Choice.{all_next}
use Rattle.bp_floor.proofs.best.floor.Goals as goal

pub loop-j-preserved : goal.loop-j-preserved
loop-j-preserved c = record {
  found = c.in_ok-best-2.ensures.found;
  best = all_next c.args.metric.now.tree c.args.metric.now.sheet c.loop-j.best c.in_ok-best-2.best c.loop-j.j c.loop-j.invariant.best c.in_ok-best-2.ensures.better c.in_ok-best-2.ensures.best;
}
