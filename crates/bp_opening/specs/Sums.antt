-- Sums of a coordinate and a distance, among which the first free point has its coordinates.
use Rattle.std.specs.Prelude.{◌≡◌, ◌⊎◌, ℕ, ◌+◌, ◌-◌, ◌*◌, ◌<◌, ◌≤◌, ◌==◌, List, length, if◌then◌else◌}
use Rattle.bp_base.specs.declared.point.Point.{Point}
use Rattle.bp_base.specs.declared.point.Sheet.{Sheet}
use Rattle.bp_base.specs.declared.point.Sheet.TheVariants.{Square, Strip}
use Rattle.bp_base.specs.Limits.{most_leaves}
use Rattle.bp_base.specs.Tree.{TreeValue}
use Rattle.bp_base.specs.Point.{origin, point_at}
use Rattle.bp_metric.specs.Distance.{leaf_dist, most_distance}
use Rattle.bp_metric.specs.Opening.{Precedes, IsWithin, IsFree, reach_on}
use Rattle.bp_opening.specs.Small.{IsNearby}

-- the leaf after those that have points
abbrev pub next_leaf : List Point → ℕ
next_leaf P = length P + 1

-- the point of leaf a with the distance of a and the next leaf added to both coordinates; for 0 the origin
abbrev pub beside : TreeValue → List Point → ℕ → Point
beside T P a =
    if a == 0 then origin else record { x = (point_at P a).x + leaf_dist T a (next_leaf P); y = (point_at P a).y + leaf_dist T a (next_leaf P) }

-- a point that is far from so many points: on a square to the right, on a strip above
abbrev pub start_on : Sheet → ℕ → Point
start_on Square count = record { x = most_distance * count; y = 0 }
start_on (Strip width) count = record { x = 0; y = most_distance * count }

-- p isn't after r
abbrev pub AtMost : Sheet → Point → Point → Type 0
AtMost G p r = Precedes G r p → ⊥

-- the next leaf may stand at p
pub record CanStand (T : TreeValue) (G : Sheet) (P : List Point) (p : Point) : Type 0 where
  pub within : IsWithin G p
  pub free : IsFree T P (next_leaf P) p

-- p isn't after a point of this column at which the next leaf may stand
abbrev pub IsLeastInColumn : TreeValue → Sheet → List Point → ℕ → Point → ℕ → Type 0
IsLeastInColumn T G P x p rows =
    (b : ℕ) → b < rows → CanStand T G P (record { x = x; y = (beside T P b).y }) → AtMost G p (record { x = x; y = (beside T P b).y })

-- the greatest distance of two leaves bounds what the points need
pub record AreNear (G : Sheet) (P : List Point) : Type 0 where
  pub few : length P ≤ most_leaves
  pub near : (j : ℕ) → 1 ≤ j → j ≤ length P → reach_on G (point_at P j) ≤ most_distance * (j - 1)
  pub small : (j : ℕ) → 1 ≤ j → j ≤ length P → IsNearby (point_at P j)

-- p was taken in place of the best one, or passed over since it doesn't fit or doesn't stand before it
abbrev pub Takes : TreeValue → Sheet → List Point → Point → Point → Point → Type 0
Takes T G P best p result =
    ((result ≡ p) × Precedes G p best) ⊎ ((result ≡ best) × (CanStand T G P p → Precedes G p best → ⊥))
