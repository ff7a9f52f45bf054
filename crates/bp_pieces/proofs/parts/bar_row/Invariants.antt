use Rattle.std.proofs.Common.{◌+◌, ◌*◌}
use Rattle.bp_pieces.specs.Parts.{AreWanted}
use Rattle.bp_pieces.proofs.parts.bar_row.Given as goal

abbrev pub invariant-loop-x : goal.invariant-loop-x
invariant-loop-x l = AreWanted l.cells l.kind l.labels (l.y * l.cells.width + l.x) l.wanted
