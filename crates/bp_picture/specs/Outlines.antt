-- The contours of all edges of regions, by rising numbers.
use Rattle.std.specs.Prelude.{◌≡◌, ℕ, ◌+◌, ◌-◌, List, [], length, map, slice_index_or}
use Rattle.bp_base.specs.Tree.{IsEdge, node_count}
use Rattle.bp_contour.specs.declared.loops.Loop.{Loop}
use Rattle.bp_regions.specs.Cells.{Reach}
use Rattle.bp_regions.specs.Contours.{AreContours}
use Rattle.bp_regions.specs.Regions.{RegionsValue}
use Rattle.bp_picture.specs.declared.outline.Outline.{Outline}

-- the outline of edge e
abbrev pub outline_at : List Outline → ℕ → Outline
outline_at outlines e = slice_index_or outlines (e - 1) (record { loops = [] })

abbrev pub IsOutline : RegionsValue → ℕ → Outline → Type 0
IsOutline R e o = AreContours (Reach R.tree R.side R.points e) (map (λ (l : Loop). l.points) o.loops)

pub record AreOutlines (R : RegionsValue) (outlines : List Outline) : Type 0 where
  pub each : length outlines + 1 ≡ node_count R.tree
  pub so : (e : ℕ) → IsEdge R.tree e → IsOutline R e (outline_at outlines e)
