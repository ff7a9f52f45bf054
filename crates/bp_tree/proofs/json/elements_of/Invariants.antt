use Rattle.std.proofs.Common.{◌≡◌, ◌≤◌, map, take, length, vec_capacity}
use Rattle.serde_json.specs.View.{view}
use Rattle.bp_tree.specs.Json.{element}
use Rattle.bp_tree.specs.Reading.{edge_of}
use Rattle.bp_tree.proofs.json.elements_of.Given as goal

abbrev pub invariant-loop-item : goal.invariant-loop-item
invariant-loop-item l =
    (length l.elements.items ≡ l.item-index) × (length l.list ≤ vec_capacity l.elements)
    × (map view (take l.item-index l.list) ≡ map element (map edge_of l.elements.items))
