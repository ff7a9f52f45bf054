use Rattle.std.proofs.Common.{◌++◌, ◌∷◌, [], subst}
use Rattle.bp_base.specs.declared.point.Axis.{Axis}
use Rattle.bp_base.specs.declared.point.Axis.TheVariants.{Y}
use Rattle.bp_base.specs.Tree.{leaf_count}
use Rattle.bp_metric.specs.Coordinates.{IsLoop}
use Rattle.bp_warm.specs.Links.{IsOrder}
use Rattle.bp_warm.proofs.HalfLaws.{y_stays, x_stays, no_other_cycle}
use Rattle.bp_warm.proofs.halves.grow_both.Goals as goal

pub returns-in-None-clause-y : goal.returns-in-None-clause-y
returns-in-None-clause-y c =
    y_stays c.args.metric.now.tree c.leaves-leaves.ensures.metric.tree c.args.steps.now c.requires.pairs c.args.step c.requires.pair c.args.order.axis c.args.order.first c.args.order.second c.in-X.is c.requires.order c.args.y.now.row.items c.args.y.now.after c.args.y.now.before c.requires.y

pub returns-in-None-grow_half-clause-x : goal.returns-in-None-grow_half-clause-x
returns-in-None-grow_half-clause-x c =
    x_stays c.args.metric.now.tree c.leaves-leaves.ensures.metric.tree c.args.steps.now c.requires.pairs c.args.step c.requires.pair c.args.order.axis c.args.order.first c.args.order.second c.in-Y.is c.requires.order c.args.x.now.row.items c.args.x.now.after c.args.x.now.before c.requires.x

pub returns-in-Some-grow_half-clause-cycle : goal.returns-in-Some-grow_half-clause-cycle
returns-in-Some-grow_half-clause-cycle c = (
  subst (λ (z : Axis). IsLoop (leaf_count c.args.metric.now.tree) (c.args.steps.now ++ c.args.step ∷ []) z c.in-Some-grow_half.chain) c.in-Y.is c.in-Some-grow_half.ensures.none,
  no_other_cycle c.args.metric.now.tree c.leaves-leaves.ensures.metric.tree c.args.steps.now c.requires.pairs c.args.step c.requires.pair Y c.args.order.first c.args.order.second (subst (λ (z : Axis). IsOrder c.args.step.pair c.args.step.choice z c.args.order.first c.args.order.second) c.in-Y.is c.requires.order) c.args.x.now.row.items c.args.x.now.after c.args.x.now.before c.requires.x,
)
