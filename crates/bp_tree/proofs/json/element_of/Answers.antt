use Rattle.std.proofs.Common.{arith, ap, length}
use Rattle.std.proofs.lemmas.Bool.{ltb-true, ltb-false}
use Rattle.bp_tree.proofs.JsonForm.{not_three}
use Rattle.bp_tree.proofs.json.element_of.Goals as goal
use Rattle.bp_tree.proofs.json.element_of.Goals.{in_default-via-then-as_slice-lt3, in_default-via-else-as_slice-lt3+else-this-lt4}

pub returns-in_default : goal.returns-in_default
returns-in_default c e = elim c.in_default.branch [
  | in_default-via-then-as_slice-lt3 w ↦ not_three _ c.in_ok-as_array.field-0.now.items e c.in_ok-as_array.ensures (λ three. let l = ap length c.as_slice.ensures.value in omega (arith, ltb-true, ltb-false, l))
  | in_default-via-else-as_slice-lt3+else-this-lt4 w ↦ not_three _ c.in_ok-as_array.field-0.now.items e c.in_ok-as_array.ensures (λ three. let l = ap length c.as_slice.ensures.value in omega (arith, ltb-true, ltb-false, l))
]
