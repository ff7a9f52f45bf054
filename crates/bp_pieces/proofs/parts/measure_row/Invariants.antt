use Rattle.bp_pieces.specs.Parts.{AreAdded}
use Rattle.bp_pieces.proofs.parts.measure_row.Given as goal

abbrev pub invariant-loop-x : goal.invariant-loop-x
invariant-loop-x l = AreAdded l.cells l.kind l.columns l.labels l.y l.height l.x l.initial.areas l.areas
