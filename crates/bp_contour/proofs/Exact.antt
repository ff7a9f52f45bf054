-- The loops over a region's table are the region's contours.
use Rattle.std.proofs.Common.{◌≡◌, ℕ, ◌-◌, ◌↔◌, List, length, get_or, sym, ◌∙◌, ap, subst, arith}
use Rattle.bp_base.specs.declared.point.Axis.{Axis}
use Rattle.bp_base.specs.declared.point.Axis.TheVariants.{X, Y}
use Rattle.bp_base.specs.declared.point.Point.{Point}
use Rattle.bp_base.specs.Tree.{IsEdge}
use Rattle.bp_regions.specs.Cells.{Reach}
use Rattle.bp_regions.specs.Contours.{AreContours}
use Rattle.bp_regions.specs.Cuts.{AreTogether, AreCutsOf}
use Rattle.bp_regions.specs.Regions.{RegionsValue}
use Rattle.bp_contour.specs.declared.runs.Run.{Run}
use Rattle.bp_contour.specs.Listed.{AreRuns, Follows, run_at}
use Rattle.bp_contour.specs.Table.{Holds, IsTable, TableValue}
use Rattle.bp_contour.specs.Tours.{AreOnGrid, AreRound, start_of}
use Rattle.bp_contour.proofs.Assembled.{are_contours}
use Rattle.bp_contour.proofs.Listing.{run_within, some_cell}
use Rattle.bp_contour.proofs.Scaled.{AreSteps, Lies}
use Rattle.bp_contour.proofs.Tables.{cuts_rise, held_within}

pub steps_from : (R : RegionsValue) (axis : Axis) (cuts : List ℕ) (n : ℕ) → AreCutsOf R axis cuts → n ≡ length cuts - 1 → AreSteps (λ k. get_or cuts k 0) n R.side
steps_from R axis cuts n h long = record {
  first = h.first;
  last = ap (λ (k : ℕ). get_or cuts k 0) long ∙ h.last;
  rise = λ i j less within. cuts_rise R axis cuts h i j less (omega (arith, less, within, long));
}

-- a number between cuts is together with the lower cut
together : (cuts : List ℕ) (n k x : ℕ) → n ≡ length cuts - 1 → Lies (λ m. get_or cuts m 0) n k x → AreTogether cuts x (get_or cuts k 0)
together cuts n k x long at = record {
  at = k;
  within = omega (arith, at.within, long);
  a_from = at.from;
  a_to = at.to;
  b_from = omega arith;
  b_to = omega (arith, at.from, at.to);
}

pub on_grid : (C : TableValue) (columns rows : List ℕ) (rs : List Run) → C.width ≡ length columns - 1 → C.height ≡ length rows - 1 → AreRuns (Holds C) rs → AreOnGrid columns rows rs
on_grid C columns rows rs width height are k less =
    let run = are.sound k less in
    let (x, y) = run_within C (run_at rs k).way (run_at rs k).from (run_at rs k).to run in
    let (a, b) = some_cell C (run_at rs k).way (run_at rs k).from (run_at rs k).to run in
    (omega (arith, x, a, width), omega (arith, y, b, height))

module _ (R : RegionsValue) (e : ℕ) (edge : IsEdge R.tree e) (columns rows : List ℕ) (xs : AreCutsOf R X columns) (ys : AreCutsOf R Y rows) (C : TableValue) (table : IsTable R e columns rows C) where
  pub same_cells : (a b x y : ℕ) → Lies (λ m. get_or columns m 0) C.width a x → Lies (λ m. get_or rows m 0) C.height b y → (Reach R.tree R.side R.points e x y ↔ Holds C a b)
  same_cells a b x y at_x at_y =
      let on_x = (xs.alike x (get_or columns a 0) y (together columns C.width a x table.width at_x)).reach e edge in
      let on_y = (ys.alike (get_or columns a 0) y (get_or rows b 0) (together rows C.height b y table.height at_y)).reach e edge in
      let here = table.exact a b at_x.within at_y.within in
      (λ r. here.1 (on_y.0 (on_x.0 r)), λ h. on_x.1 (on_y.1 (here.0 h)))

  pub contours_exact : (rs : List Run) (loops : List (List Point)) → AreRuns (Holds C) rs → AreRound (Follows (Holds C) rs) (length rs) (start_of columns rows rs) loops → AreContours (Reach R.tree R.side R.points e) loops
  contours_exact rs loops are round =
      subst (AreContours (Reach R.tree R.side R.points e)) (sym round.loops_are) (are_contours (Reach R.tree R.side R.points e) (Holds C) (λ m. get_or columns m 0) (λ m. get_or rows m 0) C.width C.height R.side (steps_from R X columns C.width xs table.width) (steps_from R Y rows C.height ys table.height) same_cells (λ x y r. r.cell) (held_within C) rs are round.marks round.tours round.are)
