use Rattle.std.proofs.Common.{◌∙◌, sym}
use Rattle.bp_check.proofs.Reasoning.{same_unless}
use Rattle.bp_revise.proofs.shape.are_of_one_shape.Goals as goal

pub returns : goal.returns
returns c =
    let parents = same_unless c.parents.result.now c.parents-2.result.now c.ne.result c.ne.ensures c.if-ne.false in (
      λ is. record {
        parents = sym c.parents.ensures.value ∙ parents ∙ c.parents-2.ensures.value;
        names = sym c.names.ensures.value ∙ sym (c.are_same_names.ensures.0 is) ∙ c.names-2.ensures.value;
      },
      λ shape. c.are_same_names.ensures.1 (c.names-2.ensures.value ∙ sym shape.names ∙ sym c.names.ensures.value),
    )
