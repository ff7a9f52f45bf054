use Rattle.std.proofs.Common.{◌-◌, ℕ, List, codes}
use Rattle.bp_base.specs.declared.point.Point.{Point}
use Rattle.bp_regions.specs.Cells.{Reach}
use Rattle.bp_regions.specs.Contours.{AreContours}
use Rattle.bp_engine.specs.Documents.{edge_text}
use Rattle.bp_engine.proofs.Drawn.{HasEdges}
use Rattle.bp_engine.proofs.drawing.loops_text.Given as goal

abbrev pub invariant-loop-edge : goal.invariant-loop-edge
invariant-loop-edge l = HasEdges edge_text l.regions.tree (λ (e : ℕ) (loops : List (List Point)). AreContours (Reach l.regions.tree l.regions.side l.regions.points e) loops) (codes "contours 1\n") (l.edge - 1) l.text.items
