-- The lines of a refutation that are still to be fed.
use Rattle.std.specs.Prelude.{ℕ, ◌+◌, ◌*◌, List, [], ◌∷◌, ◌++◌, length}
use Rattle.std.specs.List.{flat_map}
use Rattle.bp_document.specs.declared.node_line.NodeLine.{NodeLine}
use Rattle.bp_check.specs.declared.visit.Level.{Level}
use Rattle.bp_document.specs.Told.{node_list}

-- of levels from this depth on: those of the deepest first
abbrev pub lines_below : ℕ → List Level → List NodeLine
lines_below depth [] = []
lines_below depth (level ∷ levels) = lines_below (depth + 1) levels ++ flat_map (λ r. node_list r depth) level.children.now

abbrev pub lines_to_come : List Level → List NodeLine
lines_to_come levels = lines_below 1 levels

-- what falls with each line fed
abbrev pub size_to_come : List Level → ℕ
size_to_come levels = 2 * length (lines_to_come levels) + length levels
