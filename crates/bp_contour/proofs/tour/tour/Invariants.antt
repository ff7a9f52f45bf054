use Rattle.bp_contour.specs.Listed.{Follows}
use Rattle.bp_contour.specs.Table.{Holds}
use Rattle.bp_contour.specs.Tours.{start_of}
use Rattle.bp_contour.proofs.Touring.{IsUnderWay, free_count}
use Rattle.bp_contour.proofs.tour.tour.Given as goal

abbrev pub invariant-loop-place : goal.invariant-loop-place
invariant-loop-place l =
    IsUnderWay (Follows (Holds l.cells) l.runs) (start_of l.columns l.rows l.runs) l.start l.place l.fn.taken l.taken l.points

abbrev pub decreases-loop-place : goal.decreases-loop-place
decreases-loop-place l = free_count l.taken
