use Rattle.bp_pieces.specs.Parts.{AreAreas}
use Rattle.bp_pieces.proofs.parts.areas_of.Given as goal

abbrev pub invariant-loop-y : goal.invariant-loop-y
invariant-loop-y l = AreAreas l.cells l.kind l.columns l.rows l.labels l.y l.areas.items
