-- A table of cells between cuts, and which cells of a region it holds.
use Rattle.std.specs.Prelude.{◌≡◌, ℕ, ◌+◌, ◌-◌, ◌*◌, ◌^◌, ◌<◌, ◌↔◌, Bool, false, ◌&&◌, nat_lt, List, length, slice_index, slice_index_or, IsTrue, if◌then◌else◌}
use Rattle.bp_base.specs.declared.point.Point.{Point}
use Rattle.bp_regions.specs.Cells.{Reach}
use Rattle.bp_regions.specs.Regions.{RegionsValue}

-- A table without where it lies in memory: row by row, whether a cell is held.
pub record TableValue : Type 0 where
  pub width : ℕ
  pub height : ℕ
  pub bits : List Bool

-- it has a bit for each cell, and its lines can be counted
pub record IsWhole (C : TableValue) : Type 0 where
  pub each : length C.bits ≡ C.width * C.height
  pub columns : C.width + 1 < 2 ^ 64
  pub rows : C.height + 1 < 2 ^ 64

-- the cell in this column and row is held; outside the table none is
unfoldable pub bit : TableValue → ℕ → ℕ → Bool
bit C x y = if nat_lt x C.width && nat_lt y C.height then slice_index_or C.bits (y * C.width + x) false else false

abbrev pub Holds : TableValue → ℕ → ℕ → Type 0
Holds C x y = IsTrue (bit C x y)

-- the cells of a row, whose lower cut is y, were added for the first n columns
pub record AddsRow (R : RegionsValue) (e : ℕ) (columns : List ℕ) (y n : ℕ) (before after : List Bool) : Type 0 where
  pub longer : length after ≡ length before + n
  pub kept : (k : ℕ) → k < length before → slice_index_or after k false ≡ slice_index_or before k false
  pub added : (k : ℕ) → k < n → (IsTrue (slice_index_or after (length before + k) false) ↔ Reach R.tree R.side R.points e (slice_index columns k) y)

-- the bits of the first n rows
pub record AreRows (R : RegionsValue) (e : ℕ) (columns rows : List ℕ) (n : ℕ) (bits : List Bool) : Type 0 where
  pub long : length bits ≡ n * (length columns - 1)
  pub exact : (a b : ℕ) → a < length columns - 1 → b < n → (IsTrue (slice_index_or bits (b * (length columns - 1) + a) false) ↔ Reach R.tree R.side R.points e (slice_index columns a) (slice_index rows b))

-- the table says of each pair of neighbouring cuts whether Reach(e) holds the cells between them
pub record IsTable (R : RegionsValue) (e : ℕ) (columns rows : List ℕ) (C : TableValue) : Type 0 where
  pub width : C.width ≡ length columns - 1
  pub height : C.height ≡ length rows - 1
  pub exact : (a b : ℕ) → a < C.width → b < C.height → (Holds C a b ↔ Reach R.tree R.side R.points e (slice_index columns a) (slice_index rows b))

-- the grid point of a column and a row of cuts
abbrev pub grid_point : List ℕ → List ℕ → Point → Point
grid_point columns rows p = record { x = slice_index columns p.x; y = slice_index rows p.y }
