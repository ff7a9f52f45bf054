use Rattle.std.proofs.Common.{refl}
use Rattle.bp_pieces.proofs.Labelled.{among_within}
use Rattle.bp_pieces.proofs.parts.is_first.Goals as goal

pub place-place-requires : goal.place-place-requires
place-place-requires c = among_within c.args.cells.now c.args.kind c.args.x c.args.y (c.if-not-is_among.ensures.0 refl)
