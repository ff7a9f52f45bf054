use Rattle.std.specs.List.{sum}
use Rattle.bp_pieces.specs.Labels.{Among, HasLabels, Near}
use Rattle.bp_pieces.proofs.labels.labels_of.Given as goal

abbrev pub invariant-lowering : goal.invariant-lowering
invariant-lowering l = HasLabels (Among l.cells l.kind) (Near l.kind) l.cells.width l.cells.height l.labels.items

abbrev pub decreases-lowering : goal.decreases-lowering
decreases-lowering l = sum l.labels.items
