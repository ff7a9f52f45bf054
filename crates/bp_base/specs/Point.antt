-- Points and distances of the max-norm.
use Rattle.std.specs.Prelude.{ℕ, ◌-◌, ◌≤◌, max, List, slice_index_or}
use Rattle.std.specs.Int.{abs_diff}
use Rattle.bp_base.specs.declared.point.Point.{Point}
use Rattle.bp_base.specs.Limits.{most_number}

abbrev pub origin : Point
origin = record { x = 0; y = 0 }

-- the point of leaf i
abbrev pub point_at : List Point → ℕ → Point
point_at P i = slice_index_or P (i - 1) origin

-- the max-norm distance
abbrev pub gap : Point → Point → ℕ
gap p r = max (abs_diff p.x r.x) (abs_diff p.y r.y)

-- the coordinates are numbers of a document
abbrev pub IsSmallPoint : Point → Type 0
IsSmallPoint p = (p.x ≤ most_number) × (p.y ≤ most_number)
