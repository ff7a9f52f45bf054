use Rattle.bp_contour.specs.Table.{Holds}
use Rattle.bp_contour.proofs.Plain.{none_begins}
use Rattle.bp_contour.proofs.table.Cells.is_plain.Goals as goal

pub returns : goal.returns
returns c = λ alike. none_begins (Holds c.args.self.now) c.args.at _ _ _ _ c.holds-here.ensures c.beside-beside.ensures c.below-below.ensures c.across-across.ensures (c.are_alike.ensures alike)
