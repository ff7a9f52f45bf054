use Rattle.std.proofs.Common.{◌∙◌}
use Rattle.bp_regions.proofs.Rows.{made_small}
use Rattle.bp_regions.proofs.regions.Regions.of.Goals as goal

pub cuts_of-requires : goal.cuts_of-requires
cuts_of-requires c =
    let D = c.args.placement.now in
    record {
      balls = made_small c.args.metric.now.tree D.side D.points c.deref.result.now c.in_ok-balls.balls.items c.deref-3.result.now c.tree.ensures.metric.tree (record { small = c.requires.side; valid = c.requires.valid }) (c.deref.ensures.value ∙ c.in_ok-points.ensures.items ∙ c.as_slice.ensures) c.in_ok-balls.ensures c.deref-3.ensures.value;
    }

pub cuts_of-requires-2 : goal.cuts_of-requires-2
cuts_of-requires-2 c =
    let D = c.args.placement.now in
    record {
      balls = made_small c.args.metric.now.tree D.side D.points c.deref.result.now c.in_ok-balls.balls.items c.deref-4.result.now c.tree.ensures.metric.tree (record { small = c.requires.side; valid = c.requires.valid }) (c.deref.ensures.value ∙ c.in_ok-points.ensures.items ∙ c.as_slice.ensures) c.in_ok-balls.ensures c.deref-4.ensures.value;
    }
