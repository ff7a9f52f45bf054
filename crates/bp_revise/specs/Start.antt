-- Where a revision starts: at the old points, where these are still valid and need no more than the opening, and else at the opening.
use Rattle.std.specs.Prelude.{◌≡◌, ◌⊎◌, ℕ, ◌≤◌, List}
use Rattle.bp_base.specs.declared.point.Placement.{Placement}
use Rattle.bp_base.specs.declared.point.Point.{Point}
use Rattle.bp_base.specs.declared.point.Sheet.{Sheet}
use Rattle.bp_base.specs.Tree.{TreeValue}
use Rattle.bp_metric.specs.Opening.{IsOpening, side_of}
use Rattle.bp_metric.specs.Valid.{Valid}

-- the points are valid at the side that they need, which is at most u
abbrev pub WillDo : TreeValue → Sheet → List Point → ℕ → Type 0
WillDo T G points u = Valid T G 1 (side_of G points) points × (side_of G points ≤ u)

pub record IsStart (T : TreeValue) (G : Sheet) (old : List Point) (start : Placement) : Type 0 where
  pub opening : List Point
  pub is_opening : IsOpening T G opening
  pub taken :
      (WillDo T G old (side_of G opening) × (start.points ≡ old)) ⊎ ((WillDo T G old (side_of G opening) → ⊥) × (start.points ≡ opening))
  pub side : start.side ≡ side_of G start.points
