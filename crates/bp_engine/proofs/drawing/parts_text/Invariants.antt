use Rattle.std.proofs.Common.{◌-◌, ℕ, codes}
use Rattle.bp_base.specs.declared.point.Report.{Report}
use Rattle.bp_regions.specs.Cells.{Reach}
use Rattle.bp_pieces.specs.Pieces.{IsReport}
use Rattle.bp_engine.specs.Documents.{report_text}
use Rattle.bp_engine.proofs.Drawn.{HasEdges}
use Rattle.bp_engine.proofs.drawing.parts_text.Given as goal

abbrev pub invariant-loop-edge : goal.invariant-loop-edge
invariant-loop-edge l = HasEdges report_text l.regions.tree (λ (e : ℕ) (r : Report). IsReport (Reach l.regions.tree l.regions.side l.regions.points e) l.regions.side r) (codes "pieces 1\n") (l.edge - 1) l.text.items
