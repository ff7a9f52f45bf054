use Rattle.bp_pieces.specs.Labels.{Among, Near}
use Rattle.bp_pieces.proofs.Labelled.{among_within, near_back, own_labels}
use Rattle.bp_pieces.proofs.labels.labels_of.Goals as goal

pub lowering-init : goal.lowering-init
lowering-init c =
    own_labels (Among c.args.cells.now c.args.kind) (Near c.args.kind) (near_back c.args.kind) c.args.cells.now.width c.args.cells.now.height (among_within c.args.cells.now c.args.kind) c.in_ok-labels.labels.items c.in_ok-labels.ensures
