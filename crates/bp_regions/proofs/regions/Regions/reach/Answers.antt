use Rattle.std.proofs.Common.{length, refl, arith}
use Rattle.bp_regions.proofs.Rows.{span_there, span_within, span_small, span_reach}
use Rattle.bp_regions.proofs.regions.Regions.reach.Goals as goal

pub index-span-requires : goal.index-span-requires
index-span-requires c =
    let m = c.self.inside in
    omega (arith, m.spans.ok.0, span_there m.tree m.side m.points.items c.args.self.now m.balls.items c.self.view_is c.self.invariant.0 c.self.invariant.1 m.balls.items (length m.points.items) c.args.edge refl refl c.requires.edge m.spans.items c.self.invariant.4)

pub part-requires : goal.part-requires
part-requires c =
    let m = c.self.inside in
    span_within m.tree m.side m.points.items c.args.self.now m.balls.items c.self.view_is c.self.invariant.0 c.self.invariant.1 c.deref.result.now (length m.points.items) c.args.edge c.deref.ensures.value refl c.requires.edge m.spans.items c.self.invariant.4 c.index-span.result.now c.index-span.ensures

pub holds_any-requires-clause-balls : goal.holds_any-requires-clause-balls
holds_any-requires-clause-balls c =
    let m = c.self.inside in
    span_small m.tree m.side m.points.items c.args.self.now m.balls.items c.self.view_is c.self.invariant.0 c.self.invariant.1 c.deref.result.now (length m.points.items) c.args.edge c.deref.ensures.value refl c.requires.edge m.spans.items c.self.invariant.4 c.index-span.result.now c.index-span.ensures c.part.result.now c.part.ensures c.parents-tree.ensures.tree

pub returns-clause-reach : goal.returns-clause-reach
returns-clause-reach c =
    let m = c.self.inside in
    span_reach m.tree m.side m.points.items c.args.self.now m.balls.items c.self.view_is c.self.invariant.0 c.self.invariant.1 c.deref.result.now (length m.points.items) c.args.edge c.deref.ensures.value refl c.requires.edge m.spans.items c.self.invariant.4 c.index-span.result.now c.index-span.ensures c.part.result.now c.args.x c.args.y c.holds_any.result c.part.ensures c.requires.cell c.holds_any.ensures
