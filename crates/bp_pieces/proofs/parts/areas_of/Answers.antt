use Rattle.bp_pieces.proofs.Measured.{zeros_measured}
use Rattle.bp_pieces.proofs.parts.areas_of.Goals as goal

pub loop-y-init : goal.loop-y-init
loop-y-init c =
    zeros_measured c.args.cells.now c.args.kind c.args.columns.now c.args.rows.now c.args.labels.now c.requires.grid c.in_ok-areas.areas.items _ (c.in_ok-areas.ensures.items_if_clones_equal (λ y e. e)) c.requires.labels.has.long
