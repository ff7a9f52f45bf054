-- Cuts: a rising list from 0 to the side, between whose neighbours all cells are alike.
use Rattle.std.specs.Prelude.{◌≡◌, ℕ, ◌+◌, ◌-◌, ◌<◌, ◌≤◌, ◌↔◌, List, Option, length, slice_index}
use Rattle.std.specs.List.Sorted.{IsStrictlyIncreasing}
use Rattle.bp_base.specs.declared.point.Axis.{Axis}
use Rattle.bp_base.specs.declared.point.Axis.TheVariants.{X, Y}
use Rattle.bp_base.specs.declared.point.Point.{Point}
use Rattle.bp_base.specs.Tree.{TreeValue, IsEdge}
use Rattle.bp_regions.specs.Cells.{Own, Owner, Reach}
use Rattle.bp_regions.specs.Regions.{RegionsValue}

-- a and b lie between the same two neighbouring cuts
pub record AreTogether (cuts : List ℕ) (a b : ℕ) : Type 0 where
  pub at : ℕ
  pub within : at + 1 < length cuts
  pub a_from : slice_index cuts at ≤ a
  pub a_to : a < slice_index cuts (at + 1)
  pub b_from : slice_index cuts at ≤ b
  pub b_to : b < slice_index cuts (at + 1)

-- the cells (x,y) and (v,w) have equal answers of Reach, Own and Owner
pub record AreAlike (T : TreeValue) (S : ℕ) (P : List Point) (x y v w : ℕ) : Type 0 where
  pub reach : (e : ℕ) → IsEdge T e → (Reach T S P e x y ↔ Reach T S P e v w)
  pub own : (e : ℕ) → IsEdge T e → (Own T S P e x y ↔ Own T S P e v w)
  pub owner : (o : Option ℕ) → (Owner T S P x y o ↔ Owner T S P v w o)

-- cells that differ on this axis alone, and there lie between the same neighbouring cuts, are alike
abbrev pub AreCuts : TreeValue → ℕ → List Point → Axis → List ℕ → Type 0
AreCuts T S P X cuts = (x v y : ℕ) → AreTogether cuts x v → AreAlike T S P x y v y
AreCuts T S P Y cuts = (x y w : ℕ) → AreTogether cuts y w → AreAlike T S P x y x w

-- what regions answer for the cuts of an axis: such a list, which rises from 0 to the side
pub record AreCutsOf (R : RegionsValue) (axis : Axis) (cuts : List ℕ) : Type 0 where
  pub rising : IsStrictlyIncreasing cuts
  pub first : slice_index cuts 0 ≡ 0
  pub last : slice_index cuts (length cuts - 1) ≡ R.side
  pub alike : AreCuts R.tree R.side R.points axis cuts
