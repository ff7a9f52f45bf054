-- How far out the opening can lie.
use Rattle.std.specs.Prelude.{ℕ, ◌≤◌, All}
use Rattle.bp_base.specs.declared.point.Point.{Point}
use Rattle.bp_base.specs.declared.point.Placement.{Placement}
use Rattle.bp_metric.specs.Distance.{most_side}

abbrev pub IsNearby : Point → Type 0
IsNearby p = (p.x ≤ most_side) × (p.y ≤ most_side)

-- neither the side nor a coordinate is greater
pub record IsSmall (p : Placement) : Type 0 where
  pub side : p.side ≤ most_side
  pub points : All IsNearby p.points
