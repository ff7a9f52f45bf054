use Rattle.std.proofs.Common.{ℕ, replicate, ◌∙◌, ap}
use Rattle.bp_base.specs.declared.point.Axis.TheVariants.{X, Y}
use Rattle.bp_warm.proofs.Filled.{empty_half}
use Rattle.bp_warm.proofs.warm.half.Goals as goal

pub returns-clause-x : goal.returns-clause-x
returns-clause-x c =
    empty_half c.args.metric.now.tree X c.in_ok-row.row.items c.in_ok-after.after c.in_ok-before.before c.args.room (c.in_ok-row.ensures.items_if_clones_equal (λ y e. e) ∙ ap (λ (n : ℕ). replicate {A = ℕ} n 0) c.leaves.ensures.count) c.requires c.in_ok-after.ensures c.in_ok-before.ensures

pub returns-clause-y : goal.returns-clause-y
returns-clause-y c =
    empty_half c.args.metric.now.tree Y c.in_ok-row.row.items c.in_ok-after.after c.in_ok-before.before c.args.room (c.in_ok-row.ensures.items_if_clones_equal (λ y e. e) ∙ ap (λ (n : ℕ). replicate {A = ℕ} n 0) c.leaves.ensures.count) c.requires c.in_ok-after.ensures c.in_ok-before.ensures
