use Rattle.std.proofs.Common.{sym, ◌∙◌, subst, arith}
use Rattle.bp_base.specs.declared.point.Axis.{Axis}
use Rattle.bp_base.specs.declared.point.Axis.TheVariants.{X, Y}
use Rattle.bp_base.specs.Tree.{leaf_count}
use Rattle.bp_warm.specs.Links.{IsOrder}
use Rattle.bp_warm.specs.Raising.{IsExact}
use Rattle.bp_warm.proofs.Ordering.{order_leaves}
use Rattle.bp_warm.proofs.HalfLaws.{half_back, half_other_back}
use Rattle.bp_warm.proofs.halves.shrink_both.Goals as goal

pub returns-in-X-clause-x : goal.returns-in-X-clause-x
returns-in-X-clause-x c =
    let l = order_leaves (leaf_count c.args._tree.now) c.args._step.pair c.args._step.choice c.args.order.axis c.args.order.first c.args.order.second c.requires.pair c.requires.order in
    half_back c.args._tree.now c.args._steps.now c.args._step X c.args.order.first c.args.order.second (subst (λ (z : Axis). IsOrder c.args._step.pair c.args._step.choice z c.args.order.first c.args.order.second) c.in-X.is c.requires.order) (omega (arith, l.1, c.requires.few)) (omega (arith, l.3, c.requires.few)) c.args.x.now.row.items c.copy_from_slice.new.self.items c.args.x.now.after c.args.x.now.before c.remove.new.self c.remove-in-X.new.self c.requires.x (subst (IsExact c.args._tree.now c.args._steps.now X) (sym (c.copy_from_slice.ensures.items ∙ c.as_slice.ensures)) c.requires.frame_x) c.remove.ensures c.remove-in-X.ensures

pub returns-in-X-clause-y : goal.returns-in-X-clause-y
returns-in-X-clause-y c =
    let l = order_leaves (leaf_count c.args._tree.now) c.args._step.pair c.args._step.choice c.args.order.axis c.args.order.first c.args.order.second c.requires.pair c.requires.order in
    half_other_back c.args._tree.now c.args._steps.now c.args._step X c.args.order.first c.args.order.second (subst (λ (z : Axis). IsOrder c.args._step.pair c.args._step.choice z c.args.order.first c.args.order.second) c.in-X.is c.requires.order) (omega (arith, l.1, c.requires.few)) (omega (arith, l.3, c.requires.few)) c.args.y.now.row.items c.copy_from_slice-2.new.self.items c.args.y.now.after c.args.y.now.before c.requires.y (subst (IsExact c.args._tree.now c.args._steps.now Y) (sym (c.copy_from_slice-2.ensures.items ∙ c.as_slice-2.ensures)) c.requires.frame_y)

pub returns-in-Y-clause-x : goal.returns-in-Y-clause-x
returns-in-Y-clause-x c =
    let l = order_leaves (leaf_count c.args._tree.now) c.args._step.pair c.args._step.choice c.args.order.axis c.args.order.first c.args.order.second c.requires.pair c.requires.order in
    half_other_back c.args._tree.now c.args._steps.now c.args._step Y c.args.order.first c.args.order.second (subst (λ (z : Axis). IsOrder c.args._step.pair c.args._step.choice z c.args.order.first c.args.order.second) c.in-Y.is c.requires.order) (omega (arith, l.1, c.requires.few)) (omega (arith, l.3, c.requires.few)) c.args.x.now.row.items c.copy_from_slice.new.self.items c.args.x.now.after c.args.x.now.before c.requires.x (subst (IsExact c.args._tree.now c.args._steps.now X) (sym (c.copy_from_slice.ensures.items ∙ c.as_slice.ensures)) c.requires.frame_x)

pub returns-in-Y-clause-y : goal.returns-in-Y-clause-y
returns-in-Y-clause-y c =
    let l = order_leaves (leaf_count c.args._tree.now) c.args._step.pair c.args._step.choice c.args.order.axis c.args.order.first c.args.order.second c.requires.pair c.requires.order in
    half_back c.args._tree.now c.args._steps.now c.args._step Y c.args.order.first c.args.order.second (subst (λ (z : Axis). IsOrder c.args._step.pair c.args._step.choice z c.args.order.first c.args.order.second) c.in-Y.is c.requires.order) (omega (arith, l.1, c.requires.few)) (omega (arith, l.3, c.requires.few)) c.args.y.now.row.items c.copy_from_slice-2.new.self.items c.args.y.now.after c.args.y.now.before c.remove-in-Y.new.self c.remove-in-Y-2.new.self c.requires.y (subst (IsExact c.args._tree.now c.args._steps.now Y) (sym (c.copy_from_slice-2.ensures.items ∙ c.as_slice-2.ensures)) c.requires.frame_y) c.remove-in-Y.ensures c.remove-in-Y-2.ensures
