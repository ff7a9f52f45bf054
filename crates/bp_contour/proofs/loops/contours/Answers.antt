use Rattle.std.proofs.Common.{map, sym, subst}
use Rattle.std.proofs.lemmas.Result.{IfOk-weaker}
use Rattle.bp_base.specs.declared.point.Axis.TheVariants.{X, Y}
use Rattle.bp_contour.specs.declared.loops.Loop.{Loop}
use Rattle.bp_contour.specs.Listed.{AreRuns}
use Rattle.bp_regions.specs.Cuts.{AreCutsOf}
use Rattle.bp_contour.specs.Table.{Holds}
use Rattle.bp_contour.proofs.Exact.{contours_exact, on_grid}
use Rattle.bp_contour.proofs.loops.contours.Goals as goal

pub loops_of-requires-clause-grid : goal.loops_of-requires-clause-grid
loops_of-requires-clause-grid c =
    let C = c.in_ok-cells.cells in
    let are : AreRuns (Holds C) c.deref.result.now = subst (AreRuns (Holds C)) (sym c.deref.ensures.value) c.in_ok-runs.ensures in
    on_grid C c.cuts-columns.result.now c.cuts-rows.result.now c.deref.result.now c.in_ok-cells.ensures.width c.in_ok-cells.ensures.height are

pub returns : goal.returns
returns c =
    let C = c.in_ok-cells.cells in
    let R = c.args.regions.now in
    let are : AreRuns (Holds C) c.deref.result.now = subst (AreRuns (Holds C)) (sym c.deref.ensures.value) c.in_ok-runs.ensures in
    let xs : AreCutsOf R X c.cuts-columns.result.now = record { rising = c.cuts-columns.ensures.rising; first = c.cuts-columns.ensures.first; last = c.cuts-columns.ensures.last; alike = c.cuts-columns.ensures.alike } in
    let ys : AreCutsOf R Y c.cuts-rows.result.now = record { rising = c.cuts-rows.ensures.rising; first = c.cuts-rows.ensures.first; last = c.cuts-rows.ensures.last; alike = c.cuts-rows.ensures.alike } in
    IfOk-weaker c.loops_of.result _ _ (λ v. contours_exact R c.args.edge c.requires.edge c.cuts-columns.result.now c.cuts-rows.result.now xs ys C c.in_ok-cells.ensures c.deref.result.now (map (λ (l : Loop). l.points) v.items) are) c.loops_of.ensures
