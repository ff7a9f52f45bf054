use Rattle.std.proofs.Common.{◌+◌, ◌*◌}
use Rattle.bp_pieces.specs.Parts.{AreListed}
use Rattle.bp_pieces.proofs.parts.list_row.Given as goal

abbrev pub invariant-loop-x : goal.invariant-loop-x
invariant-loop-x l = AreListed l.cells l.kind l.columns l.rows l.found.labels.items l.found.areas.items l.found.wanted.items (l.y * l.cells.width + l.x) l.parts
