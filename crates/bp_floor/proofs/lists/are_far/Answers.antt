use Rattle.std.proofs.Common.{refl, sym}
use Rattle.std.proofs.lemmas.Bool.{false≢true}
use Rattle.bp_floor.proofs.RisingLeaves.{far_more, far_stops}
use Rattle.bp_floor.proofs.lists.are_far.Goals as goal

pub returns-then-not-is_apart : goal.returns-then-not-is_apart
returns-then-not-is_apart c = (
  λ never. absurd (false≢true never),
  λ far. absurd (far_stops c.args.metric.now.tree c.args.m c.args.leaves.now c.loop-at.at _ c.loop-at-test.true refl (sym c.if-not-is_apart.ensures) far),
)

pub loop-at-preserved : goal.loop-at-preserved
loop-at-preserved c =
    far_more c.args.metric.now.tree c.args.m c.args.leaves.now c.loop-at.at _ c.loop-at.invariant c.loop-at-test.true refl (sym c.if-not-is_apart.ensures)
