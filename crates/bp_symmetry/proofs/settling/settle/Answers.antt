use Rattle.std.proofs.Common.{List, sym, subst}
use Rattle.bp_base.specs.declared.point.Point.{Point}
use Rattle.bp_metric.specs.Valid.{Valid}
use Rattle.bp_symmetry.specs.Twins.{IsHandedOut}
use Rattle.bp_symmetry.proofs.Turns.{valid_turned}
use Rattle.bp_symmetry.proofs.SettlingLaw.{each_allowed}
use Rattle.bp_symmetry.proofs.Within.{turned_small}
use Rattle.bp_symmetry.proofs.settling.settle.Goals as goal

pub hand_out-requires-clause-small : goal.hand_out-requires-clause-small
hand_out-requires-clause-small c =
    turned_small c.args.metric.now.tree c.args.metric.now.sheet c.args.side c.args.points.now c.turn.new.points c.requires.valid c.turn.ensures.metric.sheet c.requires.side c.turn.ensures.turned

pub returns-clause-valid : goal.returns-clause-valid
returns-clause-valid c =
    let turned = valid_turned c.args.metric.now.tree 1 c.args.side c.args.metric.now.sheet c.args.points.now c.requires.valid in
    c.hand_out.ensures.valid c.args.metric.now.sheet 1 c.args.side (subst (Valid c.args.metric.now.tree c.args.metric.now.sheet 1 c.args.side) (sym c.turn.ensures.turned) turned)

pub returns-clause-allowed : goal.returns-clause-allowed
returns-clause-allowed c =
    let turned = valid_turned c.args.metric.now.tree 1 c.args.side c.args.metric.now.sheet c.args.points.now c.requires.valid in
    let valid = c.hand_out.ensures.valid c.args.metric.now.sheet 1 c.args.side (subst (Valid c.args.metric.now.tree c.args.metric.now.sheet 1 c.args.side) (sym c.turn.ensures.turned) turned) in
    let moved = subst (λ (P : List Point). IsHandedOut c.args.metric.now.tree P c.hand_out.new.points) c.turn.ensures.turned c.hand_out.ensures.handed in
    each_allowed c.args.metric.now.tree 1 c.args.side c.turn.ensures.metric.tree c.args.metric.now.sheet c.args.points.now c.hand_out.new.points c.requires.valid valid moved
