use Rattle.std.proofs.Common.{arith, ◌∙◌}
use Rattle.bp_metric.proofs.Distances.{leaf_dist_positive}
use Rattle.bp_floor.proofs.Choice.{made_floor}
use Rattle.bp_floor.proofs.best.floor_of.Goals as goal

pub rows-requires-clause-m : goal.rows-requires-clause-m
rows-requires-clause-m c =
    let positive = leaf_dist_positive c.args.metric.now.tree c.sheet-sheet.ensures.metric.tree c.args.i c.args.j c.requires.pair.0 c.requires.pair.1 c.requires.pair.2 in
    omega (arith, positive, c.dist-m.ensures.value)

pub returns-clause-found : goal.returns-clause-found
returns-clause-found c =
    let made = made_floor c.args.metric.now.tree c.sheet-sheet.ensures.metric.tree c.args.metric.now.sheet c.sheet-sheet.result c.args.i c.args.j c.dist-m.result c.rows.result c.saturating_sub.result c.len.result c.from_vec.result c.in_ok-leaves.leaves.items c.requires.pair c.sheet-sheet.ensures.sheet c.dist-m.ensures.value c.from_vec.ensures c.in_ok-leaves.ensures.is c.rows.ensures.rows c.saturating_sub.ensures (c.len.ensures ∙ c.in_ok-leaves.leaves.ok.0) in
    made.1
