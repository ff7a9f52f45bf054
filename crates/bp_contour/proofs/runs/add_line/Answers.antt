use Rattle.std.proofs.Common.{arith}
use Rattle.bp_contour.specs.Table.{Holds}
use Rattle.bp_contour.proofs.Listing.{line_done, run_within}
use Rattle.bp_contour.proofs.runs.add_line.Goals as goal

pub returns : goal.returns
returns c =
    let C = c.args.cells.now in
    line_done (Holds C) C.width C.height (run_within C) c.loop-x.runs.items c.args.y c.loop-x.x (omega (arith, c.loop-x-test.false, c.loop-x.auto.x-end, c.width-x-end.ensures.value)) c.loop-x.invariant
