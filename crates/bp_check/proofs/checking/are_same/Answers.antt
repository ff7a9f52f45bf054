use Rattle.std.proofs.Common.{◌∙◌, sym, ap}
use Rattle.bp_base.specs.Tree.{TreeValue}
use Rattle.bp_check.proofs.Reasoning.{same_tree, same_unless}
use Rattle.bp_check.proofs.checking.are_same.Goals as goal

pub returns : goal.returns
returns c =
    let S = c.args.other.now in
    let T = c.args.tree.now in
    let parents = same_unless c.parents.result.now c.parents-2.result.now c.ne.result c.ne.ensures c.if-ne.false in
    let lengths = same_unless c.lengths.result.now c.lengths-2.result.now c.ne-2.result c.ne-2.ensures c.if-ne-2.false in (
      λ is. same_tree S T
          (sym c.parents-2.ensures.value ∙ sym parents ∙ c.parents.ensures.value)
          (sym c.lengths-2.ensures.value ∙ sym lengths ∙ c.lengths.ensures.value)
          (sym c.names-2.ensures.value ∙ c.are_same_names.ensures.0 is ∙ c.names.ensures.value),
      λ same. c.are_same_names.ensures.1 (c.names-2.ensures.value ∙ ap (λ (U : TreeValue). U.names) same ∙ sym c.names.ensures.value),
    )
