use Rattle.bp_base.specs.declared.point.Axis.TheVariants.{X, Y}
use Rattle.bp_regions.proofs.Rows.{read_first, read_last, read_x, read_y}
use Rattle.bp_regions.proofs.regions.Regions.cuts.Goals as goal

pub returns-in-X-clause-first : goal.returns-in-X-clause-first
returns-in-X-clause-first c =
    let m = c.self.inside in
    read_first m.tree m.side m.points.items c.args.self.now m.balls.items c.self.view_is c.self.invariant.0 c.self.invariant.1 X m.xs.items c.deref.result.now c.self.invariant.2 c.deref.ensures.value

pub returns-in-X-clause-last : goal.returns-in-X-clause-last
returns-in-X-clause-last c =
    let m = c.self.inside in
    read_last m.tree m.side m.points.items c.args.self.now m.balls.items c.self.view_is c.self.invariant.0 c.self.invariant.1 X m.xs.items c.deref.result.now c.self.invariant.2 c.deref.ensures.value

pub returns-in-X-clause-alike : goal.returns-in-X-clause-alike
returns-in-X-clause-alike c =
    let m = c.self.inside in
    read_x m.tree m.side m.points.items c.args.self.now m.balls.items c.self.view_is c.self.invariant.0 c.self.invariant.1 c.args.axis m.xs.items c.deref.result.now c.self.invariant.2 c.deref.ensures.value c.in-X.is

pub returns-in-Y-clause-first : goal.returns-in-Y-clause-first
returns-in-Y-clause-first c =
    let m = c.self.inside in
    read_first m.tree m.side m.points.items c.args.self.now m.balls.items c.self.view_is c.self.invariant.0 c.self.invariant.1 Y m.ys.items c.deref-in-Y.result.now c.self.invariant.3 c.deref-in-Y.ensures.value

pub returns-in-Y-clause-last : goal.returns-in-Y-clause-last
returns-in-Y-clause-last c =
    let m = c.self.inside in
    read_last m.tree m.side m.points.items c.args.self.now m.balls.items c.self.view_is c.self.invariant.0 c.self.invariant.1 Y m.ys.items c.deref-in-Y.result.now c.self.invariant.3 c.deref-in-Y.ensures.value

pub returns-in-Y-clause-alike : goal.returns-in-Y-clause-alike
returns-in-Y-clause-alike c =
    let m = c.self.inside in
    read_y m.tree m.side m.points.items c.args.self.now m.balls.items c.self.view_is c.self.invariant.0 c.self.invariant.1 c.args.axis m.ys.items c.deref-in-Y.result.now c.self.invariant.3 c.deref-in-Y.ensures.value c.in-Y.is
