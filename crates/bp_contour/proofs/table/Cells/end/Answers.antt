use Rattle.std.proofs.Common.{◌∙◌, ◌<◌, sym, subst}
use Rattle.std.proofs.lemmas.Bool.{false≢true}
use Rattle.bp_base.specs.declared.point.Point.{Point}
use Rattle.bp_contour.specs.Table.{Holds, IsWhole}
use Rattle.bp_contour.specs.Ways.{Reaches}
use Rattle.bp_contour.proofs.Ahead.{can_step, less_room, reaches_more, reaches_none, reached_end, room_ahead}
use Rattle.bp_contour.proofs.table.Cells.end.Goals as goal

pub loop-way-init : goal.loop-way-init
loop-way-init c = reaches_none (Holds c.args.self.now) c.args.way c.args.at

pub step-end-requires : goal.step-end-requires
step-end-requires c =
    can_step c.args.self.now c.args.way c.loop-way.end (subst IsWhole c.self.view_is c.self.invariant) (c.leaves.ensures.0 c.loop-way-test.true)

pub loop-way-preserved : goal.loop-way-preserved
loop-way-preserved c =
    subst (λ (q : Point). Reaches (Holds c.args.self.now) c.args.way c.args.at q) (sym c.step-end.ensures) (reaches_more (Holds c.args.self.now) c.args.way c.args.at c.loop-way.end c.loop-way.invariant (c.leaves.ensures.0 c.loop-way-test.true))

pub loop-way-smaller : goal.loop-way-smaller
loop-way-smaller c =
    subst (λ (q : Point). room_ahead c.args.self.now c.args.way q < room_ahead c.args.self.now c.args.way c.loop-way.end) (sym c.step-end.ensures) (less_room c.args.self.now c.args.way c.loop-way.end (c.leaves.ensures.0 c.loop-way-test.true))

pub returns : goal.returns
returns c =
    reached_end (Holds c.args.self.now) c.args.way c.args.at c.loop-way.end c.requires c.loop-way.invariant (λ h. false≢true (sym c.loop-way-test.false ∙ c.leaves.ensures.1 h))
