use Rattle.std.proofs.Common.{length, map}
use Rattle.bp_contour.specs.declared.loops.Loop.{Loop}
use Rattle.bp_contour.specs.Listed.{Follows}
use Rattle.bp_contour.specs.Table.{Holds}
use Rattle.bp_contour.specs.Tours.{start_of}
use Rattle.bp_contour.proofs.Touring.{AreUnderWay}
use Rattle.bp_contour.proofs.tour.loops_of.Given as goal

abbrev pub invariant-loop-start : goal.invariant-loop-start
invariant-loop-start l =
    AreUnderWay (Follows (Holds l.cells) l.runs) (start_of l.columns l.rows l.runs) (length l.runs) l.start l.taken.items (map (λ (o : Loop). o.points) l.loops.items)
