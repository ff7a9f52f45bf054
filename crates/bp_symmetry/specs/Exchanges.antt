-- How late twins come to stand in order: pair by pair, each out of order exchanges its points.
use Rattle.std.specs.Prelude.{◌≡◌, ◌≢◌, ◌⊎◌, ℕ, ◌≤◌, IsTrue, List, length}
use Rattle.bp_base.specs.declared.path.Pair.{Pair}
use Rattle.bp_base.specs.declared.point.Point.{Point}
use Rattle.bp_base.specs.Point.{point_at}
use Rattle.bp_base.specs.Tree.{TreeValue}
use Rattle.bp_metric.specs.Choices.{are_late_twins}
use Rattle.bp_symmetry.specs.Twins.{IsAfter}

-- leaves i and j have exchanged their points
pub record IsExchanged (i j : ℕ) (P Q : List Point) : Type 0 where
  pub each : length Q ≡ length P
  pub first : point_at Q i ≡ point_at P j
  pub second : point_at Q j ≡ point_at P i
  pub others : (k : ℕ) → 1 ≤ k → k ≢ i → k ≢ j → point_at Q k ≡ point_at P k

-- late twins whose points aren't in order exchange them, and nothing else changes
abbrev pub PutsInOrder : TreeValue → Pair → List Point → List Point → Type 0
PutsInOrder T p P Q =
    (IsTrue (are_late_twins T p) × IsAfter (point_at P p.i) (point_at P p.j) × IsExchanged p.i p.j P Q)
    ⊎ ((IsTrue (are_late_twins T p) → IsAfter (point_at P p.i) (point_at P p.j) → ⊥) × (Q ≡ P))
