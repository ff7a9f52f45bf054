use Rattle.std.proofs.Common.{arith}
use Rattle.bp_contour.specs.Table.{Holds}
use Rattle.bp_contour.proofs.Listing.{run_within, runs_done}
use Rattle.bp_contour.proofs.runs.runs_of.Goals as goal

pub returns : goal.returns
returns c =
    let C = c.args.cells.now in
    runs_done (Holds C) C.width C.height (run_within C) c.loop-y.runs.items c.loop-y.y (omega (arith, c.loop-y-test.false, c.loop-y.auto.y-end, c.height-y-end.ensures.value)) c.loop-y.invariant
