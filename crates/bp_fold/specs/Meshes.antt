-- The mesh on which a drawing is found: the cut lines of both axes, and the owners of the cells between them.
-- Columns and rows are counted from 0, lines and the spaces between them alike: space k lies between the lines k and k + 1.
use Rattle.std.specs.Prelude.{◌≡◌, ℕ, ◌-◌, ◌*◌, ◌/◌, ◌%◌, ◌<◌, List, Option, None, length, slice_index, slice_index_or}
use Rattle.bp_base.specs.declared.point.Axis.TheVariants.{X, Y}
use Rattle.bp_base.specs.declared.point.Point.{Point}
use Rattle.bp_regions.specs.Cells.{Owner}
use Rattle.bp_regions.specs.Cuts.{AreCutsOf}
use Rattle.bp_regions.specs.Regions.{RegionsValue, AreRegions}
use Rattle.bp_fold.specs.declared.mesh.Mesh.{Mesh}

-- the one owner of the cell
pub record IsOwner (R : RegionsValue) (x y : ℕ) (o : Option ℕ) : Type 0 where
  pub owner : Owner R.tree R.side R.points x y o
  pub only : (p : Option ℕ) → Owner R.tree R.side R.points x y p → p ≡ o

-- the owners of all cells, row by row, of each the lower left unit cell's
pub record AreOwners (R : RegionsValue) (xs ys : List ℕ) (owners : List (Option ℕ)) : Type 0 where
  pub count : length owners ≡ (length xs - 1) * (length ys - 1)
  pub each : (k : ℕ) → k < length owners → IsOwner R (slice_index xs (k % (length xs - 1))) (slice_index ys (k / (length xs - 1))) (slice_index_or owners k None)

pub record IsMesh (R : RegionsValue) (xs ys : List ℕ) (owners : List (Option ℕ)) : Type 0 where
  pub regions : AreRegions R
  pub columns : AreCutsOf R X xs
  pub rows : AreCutsOf R Y ys
  pub owned : AreOwners R xs ys owners

-- the point where two lines cross
abbrev pub crossing : List ℕ → List ℕ → ℕ → ℕ → Point
crossing xs ys column row = record { x = slice_index xs column; y = slice_index ys row }

-- what a mesh keeps
abbrev pub FitsRegions : Mesh → Type 0
FitsRegions m = IsMesh m.regions.now m.xs.now m.ys.now m.owners.items

-- where two of its lines cross
abbrev pub crossing_of : Mesh → ℕ → ℕ → Point
crossing_of m column row = crossing m.xs.now m.ys.now column row
