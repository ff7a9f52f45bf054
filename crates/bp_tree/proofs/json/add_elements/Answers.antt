use Rattle.std.proofs.Common.{◌+◌, map, sym, subst, refl, arith}
use Rattle.std.proofs.lemmas.List.{length-map, get_or-map, take-map}
use Rattle.bp_tree.specs.Reading.{edge_of}
use Rattle.bp_tree.specs.Edges.{HasEdges}
use Rattle.bp_tree.proofs.Faultless.{first_element_fault}
use Rattle.bp_tree.proofs.json.add_elements.Goals as goal

pub returns-in-Err-clause-elements : goal.returns-in-Err-clause-elements
returns-in-Err-clause-elements c =
    first_element_fault (map edge_of c.args.elements.now) c.loop-at.at (c.loop-at.at + 1) c.loop-at.grower c.in-Err.kind _ c.loop-at.invariant.0 (omega (arith, c.loop-at-test.true, length-map c.args.elements.now edge_of)) refl
    (subst (HasEdges c.loop-at.grower) (sym (take-map edge_of c.loop-at.at c.args.elements.now)) c.loop-at.invariant.1)
    (get_or-map edge_of c.args.elements.now c.loop-at.at _ _ c.loop-at-test.true)
    c.in-Err.ensures.element
