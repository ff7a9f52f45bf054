use Rattle.std.proofs.Common.{refl, arith}
use Rattle.bp_floor.proofs.RisingLeaves.{rising_few}
use Rattle.bp_floor.proofs.holds.floor_holds.Goals as goal

pub is_side-requires-clause-count : goal.is_side-requires-clause-count
is_side-requires-clause-count c =
    let few = rising_few c.args.metric.now.tree c.as_slice-leaves.result.now (c.if-not-are_rising_leaves.ensures.0 refl) in
    omega (arith, few, c.sheet.ensures.metric.tree.leaves_few)
