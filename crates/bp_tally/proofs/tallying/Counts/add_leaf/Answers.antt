use Rattle.std.proofs.Common.{ap, arith}
use Rattle.bp_base.specs.declared.path.Choice.TheVariants.{Left, Right, Below, Above}
use Rattle.bp_tally.specs.declared.tallying.Counts.{Counts}
use Rattle.bp_tally.proofs.Tallied.{room}
use Rattle.bp_tally.proofs.tallying.Counts.add_leaf.Goals as goal

pub add-requires-clause-left : goal.add-requires-clause-left
add-requires-clause-left c =
    omega (
      arith,
      ap (λ (t : Counts). t.left) c.loop-other.invariant,
      room c.args.metric.now.tree c.args.metric.now.sheet c.args.points.now c.args.before c.loop-other.other Left (omega (arith, c.requires.leaf, c.leaves-leaves.ensures.metric.tree.leaves_few)) c.loop-other-test.true,
    )

pub add-requires-clause-right : goal.add-requires-clause-right
add-requires-clause-right c =
    omega (
      arith,
      ap (λ (t : Counts). t.right) c.loop-other.invariant,
      room c.args.metric.now.tree c.args.metric.now.sheet c.args.points.now c.args.before c.loop-other.other Right (omega (arith, c.requires.leaf, c.leaves-leaves.ensures.metric.tree.leaves_few)) c.loop-other-test.true,
    )

pub add-requires-clause-below : goal.add-requires-clause-below
add-requires-clause-below c =
    omega (
      arith,
      ap (λ (t : Counts). t.below) c.loop-other.invariant,
      room c.args.metric.now.tree c.args.metric.now.sheet c.args.points.now c.args.before c.loop-other.other Below (omega (arith, c.requires.leaf, c.leaves-leaves.ensures.metric.tree.leaves_few)) c.loop-other-test.true,
    )

pub add-requires-clause-above : goal.add-requires-clause-above
add-requires-clause-above c =
    omega (
      arith,
      ap (λ (t : Counts). t.above) c.loop-other.invariant,
      room c.args.metric.now.tree c.args.metric.now.sheet c.args.points.now c.args.before c.loop-other.other Above (omega (arith, c.requires.leaf, c.leaves-leaves.ensures.metric.tree.leaves_few)) c.loop-other-test.true,
    )
