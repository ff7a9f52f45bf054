use Rattle.std.proofs.Common.{refl}
use Rattle.bp_pieces.specs.Labels.{Among, Near}
use Rattle.bp_pieces.proofs.Labelled.{lesser_found}
use Rattle.bp_pieces.proofs.labels.least_with.Goals as goal

pub returns-clause-found : goal.returns-clause-found
returns-clause-found c =
    lesser_found (Among c.args.cells.now c.args.kind) (Near c.args.kind) c.args.cells.now.width c.args.labels.now c.args.at.x c.args.at.y c.args.other.x c.args.other.y c.args.least _ c.place.result c.min.result c.requires.cell (c.if-not-is_among.ensures.0 refl) (c.if-not-is_near.ensures.0 refl) c.requires.least c.place.ensures.value refl c.min.ensures
