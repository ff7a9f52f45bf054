use Rattle.std.proofs.Common.{refl, sym, subst}
use Rattle.bp_metric.specs.Metric.{IsSheet}
use Rattle.bp_symmetry.proofs.Within.{laid_x, faced_y_all, faced_small, strip_x, strip_y}
use Rattle.bp_symmetry.proofs.turn.turn.Goals as goal

pub face_x-requires-clause-within : goal.face_x-requires-clause-within
face_x-requires-clause-within c =
    laid_x c.args.metric.now.tree c.args.metric.now.sheet c.sheet.result c.args.side c.args.points.now c.requires.valid c.sheet.ensures.sheet c.in-Square.is c.lay.new.points _ c.lay.ensures refl

pub raise-requires-clause-within : goal.raise-requires-clause-within
raise-requires-clause-within c =
    faced_y_all c.args.metric.now.tree c.args.metric.now.sheet c.sheet.result c.args.side c.args.points.now c.requires.valid c.sheet.ensures.sheet c.in-Square.is c.lay.new.points c.face_x.new.points c.lay.ensures c.face_x.ensures

pub raise-requires-clause-small : goal.raise-requires-clause-small
raise-requires-clause-small c =
    faced_small c.args.metric.now.tree c.args.metric.now.sheet c.sheet.result c.args.side c.args.points.now c.requires.valid c.sheet.ensures.sheet c.in-Square.is c.lay.new.points c.face_x.new.points c.lay.ensures c.face_x.ensures (subst IsSheet (sym c.sheet.ensures.sheet) c.sheet.ensures.metric.sheet) c.requires.side

pub face_y-requires-clause-within : goal.face_y-requires-clause-within
face_y-requires-clause-within c =
    strip_y c.args.metric.now.tree c.args.metric.now.sheet c.sheet.result c.args.side c.args.points.now c.requires.valid c.sheet.ensures.sheet c.in-Strip.width c.in-Strip.is

pub face_x-requires-else-are_near_on_x-clause-within : goal.face_x-requires-else-are_near_on_x-clause-within
face_x-requires-else-are_near_on_x-clause-within c =
    strip_x c.args.metric.now.tree c.args.metric.now.sheet c.sheet.result c.args.side c.args.points.now c.requires.valid c.sheet.ensures.sheet c.in-Strip.width c.in-Strip.is
