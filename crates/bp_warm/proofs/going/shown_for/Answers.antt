use Rattle.std.proofs.Common.{◌∙◌, sym, ap, subst}
use Rattle.bp_base.specs.Tree.{leaf_count}
use Rattle.bp_base.specs.declared.chain.Claim.TheVariants.{Cycle}
use Rattle.bp_base.specs.declared.point.Axis.{Axis}
use Rattle.bp_base.specs.declared.point.Axis.TheVariants.{X, Y}
use Rattle.bp_metric.proofs.Lows.{no_cycle}
use Rattle.bp_metric.specs.Coordinates.{IsCycleShown}
use Rattle.bp_warm.proofs.Beginnings.{shown_loop}
use Rattle.bp_warm.proofs.going.shown_for.Goals as goal

pub returns-in-Cycle-X-default : goal.returns-in-Cycle-X-default
returns-in-Cycle-X-default c =
    subst (IsCycleShown (leaf_count c.args.metric.now.tree) c.args.path.now) (sym c.loop_on.ensures)
    (shown_loop (leaf_count c.args.metric.now.tree) c.args.path.now X c.in-Cycle-X-default.on_x c.args.cycle c.requires.cycle (c.in-Cycle-X-default.is ∙ ap (λ (a : Axis). Cycle a c.in-Cycle-X-default.on_x) c.in-Cycle-X-default.axis-is))

pub returns-in-None : goal.returns-in-None
returns-in-None c =
    let n = leaf_count c.args.metric.now.tree in
    subst (IsCycleShown n c.args.path.now) (sym c.loop_on-in-None.ensures) (
      shown_loop n c.args.path.now Y c.in-Cycle-Y-default.on_y c.args.cycle c.requires.cycle (c.in-Cycle-Y-default.is ∙ ap (λ (a : Axis). Cycle a c.in-Cycle-Y-default.on_y) c.in-Cycle-Y-default.axis-is),
      λ on_x. no_cycle c.args.metric.now.tree c.leaves-leaves.ensures.metric.tree c.args.path.now c.requires.pairs X c.in-None.ensures.none.0 c.in-None.ensures.none.1 on_x,
    )
