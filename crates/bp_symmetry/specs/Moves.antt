-- The moves that settle a placement, as functions on lists of points, on a grid q times finer. They keep a placement valid at its side.
use Rattle.std.specs.Prelude.{ℕ, ◌+◌, ◌-◌, ◌*◌, List, map, Bool, not, ◌&&◌, nat_le, nat_lt, if◌then◌else◌}
use Rattle.std.specs.Int.{abs_diff}
use Rattle.bp_base.specs.declared.point.Point.{Point}
use Rattle.bp_base.specs.declared.point.Sheet.{Sheet}
use Rattle.bp_base.specs.declared.point.Sheet.TheVariants.{Square, Strip}
use Rattle.bp_base.specs.Tree.{TreeValue, leaf_count}
use Rattle.bp_base.specs.Point.{point_at}
use Rattle.bp_metric.specs.Distance.{leaf_dist}

abbrev pub exchanged_point : Point → Point
exchanged_point p = record { x = p.y; y = p.x }

abbrev pub mirrored_x_point : ℕ → Point → Point
mirrored_x_point w p = record { x = w - p.x; y = p.y }

abbrev pub mirrored_y_point : ℕ → Point → Point
mirrored_y_point s p = record { x = p.x; y = s - p.y }

-- x and y exchanged in all points
abbrev pub exchanged : List Point → List Point
exchanged P = map exchanged_point P

-- the sheet of width w turned over, left and right exchanged
abbrev pub mirrored_x : ℕ → List Point → List Point
mirrored_x w P = map (mirrored_x_point w) P

-- the sheet of side s turned over, top and bottom exchanged
abbrev pub mirrored_y : ℕ → List Point → List Point
mirrored_y s P = map (mirrored_y_point s) P

-- the first two leaves are nearer on x than their distance
abbrev pub are_near_on_x : TreeValue → ℕ → List Point → Bool
are_near_on_x T q P = nat_lt (abs_diff (point_at P 1).x (point_at P 2).x) (q * leaf_dist T 1 2)

-- leaf 3 is there, and lies neither to the right of leaf 1 nor to its left nor above it, by their distance
abbrev pub is_third_below : TreeValue → ℕ → List Point → Bool
is_third_below T q P =
    nat_le 3 (leaf_count T)
    && not (nat_le ((point_at P 1).x + q * leaf_dist T 1 3) (point_at P 3).x)
    && not (nat_le ((point_at P 3).x + q * leaf_dist T 1 3) (point_at P 1).x)
    && not (nat_le ((point_at P 1).y + q * leaf_dist T 1 3) (point_at P 3).y)

-- where the first two leaves are near on x, x and y are exchanged
abbrev pub laid : TreeValue → ℕ → List Point → List Point
laid T q P = if are_near_on_x T q P then exchanged P else P

-- where leaf 1 lies to the right of leaf 2, the sheet of width w is turned over
abbrev pub faced_x : ℕ → List Point → List Point
faced_x w P = if nat_lt (point_at P 2).x (point_at P 1).x then mirrored_x w P else P

-- where leaf 1 lies above leaf 2, the sheet of side s is turned over
abbrev pub faced_y : ℕ → List Point → List Point
faced_y s P = if nat_lt (point_at P 2).y (point_at P 1).y then mirrored_y s P else P

-- where leaf 3 can only lie below leaf 1, the sheet of side s is turned over
abbrev pub raised : TreeValue → ℕ → ℕ → List Point → List Point
raised T q s P = if is_third_below T q P then mirrored_y s P else P

-- the moves of the whole sheet: three on a square; on a strip, which keeps its width, one on the axis on which the first two leaves are apart
unfoldable pub turned : TreeValue → Sheet → ℕ → ℕ → List Point → List Point
turned T Square q s P = raised T q s (faced_x s (laid T q P))
turned T (Strip width) q s P = if are_near_on_x T q P then faced_y s P else faced_x (q * width) P
