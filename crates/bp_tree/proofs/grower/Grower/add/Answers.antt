use Rattle.std.proofs.Common.{◌++◌, ◌∷◌, [], sym, subst, ◌∙◌}
use Rattle.std.proofs.lemmas.Bool.{eqb-false}
use Rattle.bp_base.specs.Tree.{TreeValue}
use Rattle.bp_tree.specs.Edges.{HasEdges}
use Rattle.bp_tree.proofs.Growth.{added, extends}
use Rattle.bp_tree.proofs.grower.Grower.add.Goals as goal

pub push-requires : goal.push-requires
push-requires c =
    added c.args.self.now _ c.self.view_is c.self.invariant.0 c.deref.result.now c.deref.ensures.value (λ none. eqb-false _ 0 (sym c.if-is_empty.ensures) (sym c.deref.ensures.len ∙ none)) c.args.edge.now c.in_ok-parent.parent c.in_ok-parent.ensures c.requires

pub returns-clause-edge : goal.returns-clause-edge
returns-clause-edge c es has =
    subst (λ (S : TreeValue). HasEdges S (es ++ c.args.edge.now ∷ [])) (sym c.push.ensures.node) (extends c.args.self.now _ c.self.view_is c.self.invariant.0 c.deref.result.now c.deref.ensures.value (λ none. eqb-false _ 0 (sym c.if-is_empty.ensures) (sym c.deref.ensures.len ∙ none)) c.args.edge.now c.in_ok-parent.parent c.in_ok-parent.ensures es has)
