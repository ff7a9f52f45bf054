use Rattle.std.proofs.Common.{refl, sym, ap, ◌∙◌}
use Rattle.bp_base.specs.declared.point.Sheet.{Sheet}
use Rattle.bp_lemmas.specs.Trees.{axis_of, first_upper, tree_system}
use Rattle.bp_mirror.specs.Systems.{mirror_system}
use Rattle.bp_replay.specs.Tasks.{Task}
use Rattle.bp_replay.proofs.given.Given.first_upper.Goals as goal

pub returns-in-Corner : goal.returns-in-Corner
unfolding tree_system
returns-in-Corner c =
    rw (← c.self.view_is, c.in-Corner.is)
    (c.first_upper_on.ensures ∙ ap (λ (G : Sheet). first_upper G c.self.inside.bound (axis_of c.args.at)) (c.sheet.ensures ∙ ap (λ (t : Task). t.sheet) (sym c.self.view_is)))

pub returns-in-Mirror : goal.returns-in-Mirror
unfolding mirror_system
returns-in-Mirror c = rw (← c.self.view_is, c.in-Mirror.is) refl
