use Rattle.std.proofs.Common.{arith}
use Rattle.bp_pieces.proofs.Parted.{trues_wanted, wanted_ended}
use Rattle.bp_pieces.proofs.parts.wanted_of.Goals as goal

pub loop-y-init : goal.loop-y-init
loop-y-init c =
    trues_wanted c.args.cells.now c.args.kind c.args.labels.now c.in_ok-wanted.wanted.items _ (c.in_ok-wanted.ensures.items_if_clones_equal (λ y e. e)) c.requires.labels.has.long

pub returns : goal.returns
returns c =
    wanted_ended c.args.cells.now c.args.kind c.args.labels.now c.loop-y.y c.loop-y.wanted.items (omega (arith, c.loop-y-test.false, c.loop-y.auto.y-end, c.height-y-end.ensures.value)) c.loop-y.invariant
