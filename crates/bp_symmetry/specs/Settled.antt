-- Settled placements: valid ones in which an allowed choice holds for each pair.
use Rattle.std.specs.Prelude.{ℕ, List, Contains}
use Rattle.bp_base.specs.declared.path.Choice.{Choice}
use Rattle.bp_base.specs.declared.path.Pair.{Pair}
use Rattle.bp_base.specs.declared.point.Point.{Point}
use Rattle.bp_base.specs.declared.point.Sheet.{Sheet}
use Rattle.bp_base.specs.Path.{IsPairOf}
use Rattle.bp_base.specs.Tree.{TreeValue, leaf_count}
use Rattle.bp_metric.specs.Choices.{Holds, allowed}
use Rattle.bp_metric.specs.Valid.{Valid}
use Rattle.bp_symmetry.specs.Moves.{turned}
use Rattle.bp_symmetry.specs.Twins.{IsHandedOut}

-- some choice that the pair allows holds for its points
pub record HasAllowed (T : TreeValue) (G : Sheet) (q : ℕ) (P : List Point) (p : Pair) : Type 0 where
  pub choice : Choice
  pub allowed : Contains (allowed T G p) choice
  pub holds : Holds T q P p choice

-- an allowed choice holds for each pair
abbrev pub EachHasAllowed : TreeValue → Sheet → ℕ → List Point → Type 0
EachHasAllowed T G q P = (p : Pair) → IsPairOf (leaf_count T) p → HasAllowed T G q P p

-- Q is what the moves make of P
abbrev pub AreMoved : TreeValue → Sheet → ℕ → ℕ → List Point → List Point → Type 0
AreMoved T G q s P Q = IsHandedOut T (turned T G q s P) Q

-- what settling a valid placement gives
pub record IsSettling (T : TreeValue) (G : Sheet) (q s : ℕ) (P Q : List Point) : Type 0 where
  pub moved : AreMoved T G q s P Q
  pub valid : Valid T G q s Q
  pub allowed : EachHasAllowed T G q Q
