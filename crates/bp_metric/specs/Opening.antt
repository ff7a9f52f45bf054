-- The opening packing: each leaf in order at the first free point of the sheet.
use Rattle.std.specs.Prelude.{◌≡◌, ◌⊎◌, ℕ, ◌<◌, ◌≤◌, max, List, [], ◌∷◌, length}
use Rattle.bp_base.specs.declared.point.Point.{Point}
use Rattle.bp_base.specs.declared.point.Sheet.{Sheet}
use Rattle.bp_base.specs.declared.point.Sheet.TheVariants.{Square, Strip}
use Rattle.bp_base.specs.Tree.{TreeValue, leaf_count, IsLeaf}
use Rattle.bp_base.specs.Point.{point_at, gap}
use Rattle.bp_metric.specs.Distance.{leaf_dist}

-- the order of points: on a square by the greater coordinate, then x, then y; on a strip by y, then x
abbrev pub Precedes : Sheet → Point → Point → Type 0
Precedes Square p r =
    (max p.x p.y < max r.x r.y) ⊎ ((max p.x p.y ≡ max r.x r.y) × ((p.x < r.x) ⊎ ((p.x ≡ r.x) × (p.y < r.y))))
Precedes (Strip width) p r = (p.y < r.y) ⊎ ((p.y ≡ r.y) × (p.x < r.x))

-- the point is within a strip's width
abbrev pub IsWithin : Sheet → Point → Type 0
IsWithin Square p = Unit {0}
IsWithin (Strip width) p = p.x ≤ width

-- p is at least leaf k's distances from the points of the leaves before it
abbrev pub IsFree : TreeValue → List Point → ℕ → Point → Type 0
IsFree T P k p = (j : ℕ) → 1 ≤ j → j < k → leaf_dist T j k ≤ gap (point_at P j) p

-- p is the first such point of the sheet
pub record IsFirst (T : TreeValue) (G : Sheet) (P : List Point) (k : ℕ) (p : Point) : Type 0 where
  pub within : IsWithin G p
  pub free : IsFree T P k p
  pub least : (r : Point) → Precedes G r p → IsWithin G r → IsFree T P k r → ⊥

-- each leaf stands at the first free point
pub record IsOpening (T : TreeValue) (G : Sheet) (P : List Point) : Type 0 where
  pub each : length P ≡ leaf_count T
  pub first : (k : ℕ) → IsLeaf T k → IsFirst T G P k (point_at P k)

-- the side that a point needs: its greater coordinate, on a strip its height
abbrev pub reach_on : Sheet → Point → ℕ
reach_on Square p = max p.x p.y
reach_on (Strip width) p = p.y

-- the side that points need
abbrev pub side_of : Sheet → List Point → ℕ
side_of G [] = 0
side_of G (p ∷ P) = max (reach_on G p) (side_of G P)

-- u is the side of the opening, U0
pub record IsOpeningSide (T : TreeValue) (G : Sheet) (u : ℕ) : Type 0 where
  pub opening : List Point
  pub is_opening : IsOpening T G opening
  pub is_side : u ≡ side_of G opening
