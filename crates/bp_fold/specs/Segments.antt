-- Drawn unit segments: those on the sheet's border, and the hinges.
use Rattle.std.specs.Prelude.{◌≡◌, ◌⊎◌, ℕ, ◌<◌}
use Rattle.bp_base.specs.declared.point.Axis.{Axis}
use Rattle.bp_base.specs.declared.point.Axis.TheVariants.{X, Y}
use Rattle.bp_regions.specs.Hinges.{IsHinge}
use Rattle.bp_regions.specs.Regions.{RegionsValue}

-- the unit segment from (x,y) lies on the border of the square of side S
abbrev pub IsOnBorder : ℕ → Axis → ℕ → ℕ → Type 0
IsOnBorder S X x y = (x < S) × ((y ≡ 0) ⊎ (y ≡ S))
IsOnBorder S Y x y = (y < S) × ((x ≡ 0) ⊎ (x ≡ S))

-- the unit segment from (x,y) is drawn
unfoldable pub IsDrawn : RegionsValue → Axis → ℕ → ℕ → Type 0
IsDrawn R axis x y = IsOnBorder R.side axis x y ⊎ IsHinge R.tree R.side R.points axis x y
