-- Vertices: the grid points at which drawn segments end, and not only two that make a straight line.
use Rattle.std.specs.Prelude.{◌≡◌, ◌⊎◌, Bool, true, false, ℕ, ◌-◌, ◌<◌, ◌≤◌}
use Rattle.bp_base.specs.declared.point.Axis.TheVariants.{X, Y}
use Rattle.bp_base.specs.declared.point.Point.{Point}
use Rattle.bp_regions.specs.Regions.{RegionsValue}
use Rattle.bp_fold.specs.Segments.{IsDrawn}

-- the four unit segments that end at a point, each where it is drawn
abbrev pub HasLeft : RegionsValue → Point → Type 0
HasLeft R p = (1 ≤ p.x) × IsDrawn R X (p.x - 1) p.y

abbrev pub HasRight : RegionsValue → Point → Type 0
HasRight R p = IsDrawn R X p.x p.y

abbrev pub HasLower : RegionsValue → Point → Type 0
HasLower R p = (1 ≤ p.y) × IsDrawn R Y p.x (p.y - 1)

abbrev pub HasUpper : RegionsValue → Point → Type 0
HasUpper R p = IsDrawn R Y p.x p.y

-- at least one drawn segment ends at the point; they are neither exactly the left and the right one nor exactly the lower and the upper one
pub record IsVertex (R : RegionsValue) (p : Point) : Type 0 where
  pub some : HasLeft R p ⊎ HasRight R p ⊎ HasLower R p ⊎ HasUpper R p
  pub not_level : HasLeft R p → HasRight R p → ¬ HasLower R p → ¬ HasUpper R p → ⊥
  pub not_upright : HasLower R p → HasUpper R p → ¬ HasLeft R p → ¬ HasRight R p → ⊥

-- of two pairs of numbers the first comes before the second: by their first numbers, and where these are equal by their second ones; vertices, by (y, x), stand in this order
abbrev pub IsPairBefore : ℕ → ℕ → ℕ → ℕ → Type 0
IsPairBefore a b c d = (a < c) ⊎ ((a ≡ c) × (b < d))

-- whether the drawn ones among the left, right, lower and upper segment make a vertex
abbrev pub is_bent : Bool → Bool → Bool → Bool → Bool
is_bent false false false false = false
is_bent true true false false = false
is_bent false false true true = false
is_bent left right lower upper = true
