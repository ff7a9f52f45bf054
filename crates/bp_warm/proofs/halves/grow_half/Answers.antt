use Rattle.std.proofs.Common.{◌++◌, ◌∷◌, [], sym, subst, arith}
use Rattle.bp_warm.specs.Raising.{IsExact}
use Rattle.bp_warm.proofs.HalfLaws.{written, half_grown, after_has_room, before_has_room}
use Rattle.bp_warm.proofs.halves.grow_half.Goals as goal

pub add-requires-clause-room : goal.add-requires-clause-room
add-requires-clause-room c =
    after_has_room c.args.metric.now.tree c.args.steps.now c.args.step c.args.order.axis c.args.order.first c.args.order.second c.requires.order (omega (arith, c.requires.first.1, c.leaves-leaves.ensures.metric.tree.leaves_few)) (omega (arith, c.requires.second.1, c.leaves-leaves.ensures.metric.tree.leaves_few)) c.args.half.now.row.items c.args.half.now.after c.args.half.now.before c.requires.half c.requires.room

pub add-requires-in-None-clause-room : goal.add-requires-in-None-clause-room
add-requires-in-None-clause-room c =
    before_has_room c.args.metric.now.tree c.args.steps.now c.args.step c.args.order.axis c.args.order.first c.args.order.second c.requires.order (omega (arith, c.requires.first.1, c.leaves-leaves.ensures.metric.tree.leaves_few)) (omega (arith, c.requires.second.1, c.leaves-leaves.ensures.metric.tree.leaves_few)) c.args.half.now.row.items c.args.half.now.after c.args.half.now.before c.requires.half c.requires.room

pub returns-in-None-clause-none : goal.returns-in-None-clause-none
returns-in-None-clause-none c =
    let exact = c.in-None.ensures.none in
    let all = written c.args.half.now.row.len c.args.half.now.row.items c.grow-cycle.new.lows (omega (arith, exact.each, c.requires.half.exact.each, c.args.half.now.row.ok.0)) in
    half_grown c.args.metric.now.tree c.args.steps.now c.args.step c.args.order.axis c.args.order.first c.args.order.second c.requires.order (omega (arith, c.requires.first.1, c.leaves-leaves.ensures.metric.tree.leaves_few)) (omega (arith, c.requires.second.1, c.leaves-leaves.ensures.metric.tree.leaves_few)) c.args.half.now.row.items _ c.args.half.now.after c.args.half.now.before c.add.new.self c.add-in-None.new.self c.requires.half (subst (IsExact c.args.metric.now.tree (c.args.steps.now ++ c.args.step ∷ []) c.args.order.axis) (sym all) exact) c.add.ensures c.add-in-None.ensures
