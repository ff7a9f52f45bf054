use Rattle.std.proofs.Common.{List, map, sym, subst}
use Rattle.bp_contour.specs.declared.loops.Loop.{Loop}
use Rattle.bp_regions.specs.Cells.{Reach}
use Rattle.bp_regions.specs.Contours.{AreContours}
use Rattle.bp_picture.proofs.outline.outline_of.Goals as goal

pub returns : goal.returns
returns c =
    let R = c.args.regions.now in
    subst (λ (ls : List Loop). AreContours (Reach R.tree R.side R.points c.args.edge) (map (λ (l : Loop). l.points) ls)) (sym c.from_vec.ensures) c.in_ok-loops.ensures
