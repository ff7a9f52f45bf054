use Rattle.std.proofs.Common.{sym, ap, ◌∙◌}
use Rattle.bp_lemmas.specs.Trees.{is_leaf, tree_system}
use Rattle.bp_mirror.specs.Systems.{is_variable, mirror_system}
use Rattle.bp_replay.specs.Tasks.{Task}
use Rattle.bp_replay.proofs.given.Given.has_coordinate.Goals as goal

pub returns-in-Corner : goal.returns-in-Corner
unfolding tree_system
returns-in-Corner c = rw (← c.self.view_is, c.in-Corner.is) (c.is_leaf.ensures.value ∙ ap (λ (t : Task). is_leaf t.tree c.args.leaf) (sym c.self.view_is))

pub returns-then-is_leaf : goal.returns-then-is_leaf
unfolding mirror_system
returns-then-is_leaf c =
    let there = ap (λ (t : Task). is_leaf t.tree c.args.leaf) c.self.view_is ∙ sym c.if-is_leaf.ensures.value in
    rw (← c.self.view_is, c.in-Mirror.is, there) (c.is_variable.ensures ∙ ap is_variable c.at.ensures.value)

pub returns-else-is_leaf : goal.returns-else-is_leaf
unfolding mirror_system
returns-else-is_leaf c =
    let not = ap (λ (t : Task). is_leaf t.tree c.args.leaf) c.self.view_is ∙ sym c.if-is_leaf.ensures.value in
    rw (← c.self.view_is, c.in-Mirror.is, not) c.if-is_leaf.false
