use Rattle.std.proofs.Common.{map, take}
use Rattle.bp_tree.specs.Edges.{HasEdges, IsGrowing}
use Rattle.bp_tree.specs.Reading.{edge_of}
use Rattle.bp_tree.proofs.json.add_elements.Given as goal

abbrev pub invariant-loop-at : goal.invariant-loop-at
invariant-loop-at l = IsGrowing l.grower × HasEdges l.grower (map edge_of (take l.at l.elements))
