-- Hinges: the unit segments between two cells with different owners, where none counts as an owner.
-- A unit segment along X goes from the point (x,y) to (x+1,y), one along Y from (x,y) to (x,y+1).
use Rattle.std.specs.Prelude.{◌≢◌, ℕ, ◌-◌, ◌≤◌, List, Option}
use Rattle.bp_base.specs.declared.point.Axis.{Axis}
use Rattle.bp_base.specs.declared.point.Axis.TheVariants.{X, Y}
use Rattle.bp_base.specs.declared.point.Point.{Point}
use Rattle.bp_base.specs.Tree.{TreeValue}
use Rattle.bp_regions.specs.Cells.{IsCell, Owner}

-- the cells (x,y) and (v,w) have different owners
pub record HaveOtherOwners (T : TreeValue) (S : ℕ) (P : List Point) (x y v w : ℕ) : Type 0 where
  pub one : Option ℕ
  pub other : Option ℕ
  pub first : Owner T S P x y one
  pub second : Owner T S P v w other
  pub differ : one ≢ other

-- the unit segment from (x,y) is a hinge: it lies between two such cells
abbrev pub IsHinge : TreeValue → ℕ → List Point → Axis → ℕ → ℕ → Type 0
IsHinge T S P X x y = (1 ≤ y) × IsCell S x y × HaveOtherOwners T S P x (y - 1) x y
IsHinge T S P Y x y = (1 ≤ x) × IsCell S x y × HaveOtherOwners T S P (x - 1) y x y
