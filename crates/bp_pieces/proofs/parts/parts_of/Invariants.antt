use Rattle.std.proofs.Common.{◌*◌}
use Rattle.bp_pieces.specs.Parts.{AreListed}
use Rattle.bp_pieces.proofs.parts.parts_of.Given as goal

abbrev pub invariant-loop-y : goal.invariant-loop-y
invariant-loop-y l = AreListed l.cells l.kind l.columns l.rows l.found.labels.items l.found.areas.items l.found.wanted.items (l.y * l.cells.width) l.parts
