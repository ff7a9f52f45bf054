use Rattle.bp_pieces.proofs.Labelled.{among_within}
use Rattle.bp_pieces.proofs.labels.label_of.Goals as goal

pub place-requires : goal.place-requires
place-requires c = among_within c.args.cells.now c.args.kind c.args.x c.args.y c.requires.cell
