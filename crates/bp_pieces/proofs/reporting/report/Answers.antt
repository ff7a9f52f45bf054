use Rattle.bp_base.specs.declared.point.Axis.TheVariants.{X, Y}
use Rattle.bp_regions.specs.Cells.{Reach}
use Rattle.bp_regions.specs.Cuts.{AreCutsOf}
use Rattle.bp_pieces.specs.Pieces.{Touch}
use Rattle.bp_pieces.proofs.Joined.{touch_back}
use Rattle.bp_pieces.proofs.Reported.{areas_add_up, grid_of, report_is}
use Rattle.bp_pieces.proofs.reporting.report.Goals as goal

pub parts_of-requires : goal.parts_of-requires
parts_of-requires c =
    let R = c.args.regions.now in
    let xs : AreCutsOf R X c.cuts-columns.result.now = record { rising = c.cuts-columns.ensures.rising; first = c.cuts-columns.ensures.first; last = c.cuts-columns.ensures.last; alike = c.cuts-columns.ensures.alike } in
    let ys : AreCutsOf R Y c.cuts-rows.result.now = record { rising = c.cuts-rows.ensures.rising; first = c.cuts-rows.ensures.first; last = c.cuts-rows.ensures.last; alike = c.cuts-rows.ensures.alike } in
    record { grid = grid_of R c.args.edge c.cuts-columns.result.now c.cuts-rows.result.now c.cuts-columns.ensures.regions xs ys c.in_ok-cells.cells c.in_ok-cells.ensures }

pub parts_of-requires-2 : goal.parts_of-requires-2
parts_of-requires-2 c =
    let R = c.args.regions.now in
    let xs : AreCutsOf R X c.cuts-columns.result.now = record { rising = c.cuts-columns.ensures.rising; first = c.cuts-columns.ensures.first; last = c.cuts-columns.ensures.last; alike = c.cuts-columns.ensures.alike } in
    let ys : AreCutsOf R Y c.cuts-rows.result.now = record { rising = c.cuts-rows.ensures.rising; first = c.cuts-rows.ensures.first; last = c.cuts-rows.ensures.last; alike = c.cuts-rows.ensures.alike } in
    record { grid = grid_of R c.args.edge c.cuts-columns.result.now c.cuts-rows.result.now c.cuts-columns.ensures.regions xs ys c.in_ok-cells.cells c.in_ok-cells.ensures }

pub returns-clause-report : goal.returns-clause-report
returns-clause-report c =
    let R = c.args.regions.now in
    let xs : AreCutsOf R X c.cuts-columns.result.now = record { rising = c.cuts-columns.ensures.rising; first = c.cuts-columns.ensures.first; last = c.cuts-columns.ensures.last; alike = c.cuts-columns.ensures.alike } in
    let ys : AreCutsOf R Y c.cuts-rows.result.now = record { rising = c.cuts-rows.ensures.rising; first = c.cuts-rows.ensures.first; last = c.cuts-rows.ensures.last; alike = c.cuts-rows.ensures.alike } in
    report_is R c.args.edge c.requires.edge c.cuts-columns.ensures.regions c.cuts-columns.result.now c.cuts-rows.result.now xs ys c.in_ok-cells.cells c.in_ok-cells.ensures c.in_ok-pieces.pieces c.in_ok-holes.holes c.in_ok-pieces.ensures c.in_ok-holes.ensures

pub returns-clause-areas : goal.returns-clause-areas
returns-clause-areas c =
    let R = c.args.regions.now in
    let xs : AreCutsOf R X c.cuts-columns.result.now = record { rising = c.cuts-columns.ensures.rising; first = c.cuts-columns.ensures.first; last = c.cuts-columns.ensures.last; alike = c.cuts-columns.ensures.alike } in
    let ys : AreCutsOf R Y c.cuts-rows.result.now = record { rising = c.cuts-rows.ensures.rising; first = c.cuts-rows.ensures.first; last = c.cuts-rows.ensures.last; alike = c.cuts-rows.ensures.alike } in
    let report = report_is R c.args.edge c.requires.edge c.cuts-columns.ensures.regions c.cuts-columns.result.now c.cuts-rows.result.now xs ys c.in_ok-cells.cells c.in_ok-cells.ensures c.in_ok-pieces.pieces c.in_ok-holes.holes c.in_ok-pieces.ensures c.in_ok-holes.ensures in
    areas_add_up (Reach R.tree R.side R.points c.args.edge) Touch touch_back R.side c.in_ok-pieces.pieces report.pieces
