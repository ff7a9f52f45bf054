use Rattle.std.proofs.Common.{refl, map, ap, sym, ◌∙◌, List, arith}
use Rattle.std.proofs.lemmas.List.{take_all}
use Rattle.serde_json.specs.View.{view}
use Rattle.serde_json.specs.declared.value.Value.{Value}
use Rattle.bp_tree.specs.Reading.{edge_of}
use Rattle.bp_tree.proofs.JsonForm.{are_elements, no_elements}
use Rattle.bp_tree.proofs.json.elements_of.Goals as goal

pub returns-in_default-element_of : goal.returns-in_default-element_of
returns-in_default-element_of c =
    rw c.of_the_whole-in_default-element_of.ensures (refl, no_elements _ c.in-Some.list.now c.loop-item.item-index c.item-item.result c.in-Some.ensures c.loop-item-test.true c.item-item.is c.in_default-element_of.ensures)

pub returns : goal.returns
returns c =
    are_elements _ c.in-Some.list.now (map edge_of c.loop-item.elements.items) c.in-Some.ensures
    (ap (λ (vs : List Value). map view vs) (sym (take_all c.loop-item.item-index c.in-Some.list.now (omega (arith, c.loop-item-test.false)))) ∙ c.loop-item.invariant.2)
