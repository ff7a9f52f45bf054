-- What regions are seen as: a tree, and a placement of its tips on a square.
use Rattle.std.specs.Prelude.{ℕ, ◌≤◌, List}
use Rattle.bp_base.specs.declared.point.Point.{Point}
use Rattle.bp_base.specs.declared.point.Sheet.TheVariants.{Square}
use Rattle.bp_base.specs.Limits.{most_number}
use Rattle.bp_base.specs.Tree.{TreeValue, IsTree}
use Rattle.bp_metric.specs.Valid.{Valid}

pub record RegionsValue : Type 0 where
  pub tree : TreeValue
  pub side : ℕ
  pub points : List Point

-- the points are a valid placement, whose side is a number of a document
pub record ArePlaced (T : TreeValue) (S : ℕ) (P : List Point) : Type 0 where
  pub small : S ≤ most_number
  pub valid : Valid T Square 1 S P

-- what all regions keep
pub record AreRegions (R : RegionsValue) : Type 0 where
  pub tree : IsTree R.tree
  pub placed : ArePlaced R.tree R.side R.points
