use Rattle.std.proofs.Common.{◌*◌}
use Rattle.bp_pieces.specs.Parts.{AreWanted}
use Rattle.bp_pieces.proofs.parts.wanted_of.Given as goal

abbrev pub invariant-loop-y : goal.invariant-loop-y
invariant-loop-y l = AreWanted l.cells l.kind l.labels (l.y * l.cells.width) l.wanted.items
