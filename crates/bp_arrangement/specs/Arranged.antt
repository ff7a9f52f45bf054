-- Arranged placements: the corner lies as it should, and the head of each swap is in order.
use Rattle.std.specs.Prelude.{ℕ, ◌+◌, ◌*◌, ◌≤◌, List, All}
use Rattle.bp_base.specs.declared.path.Pair.{Pair}
use Rattle.bp_base.specs.declared.point.Point.{Point}
use Rattle.bp_base.specs.declared.point.Sheet.{Sheet}
use Rattle.bp_base.specs.declared.point.Sheet.TheVariants.{Square, Strip}
use Rattle.bp_base.specs.Tree.{TreeValue}
use Rattle.bp_base.specs.Point.{point_at}
use Rattle.bp_metric.specs.Distance.{leaf_dist}
use Rattle.bp_metric.specs.Valid.{Valid}
use Rattle.bp_arrangement.specs.Swaps.{IsCorner, IsAdmissible, head}

-- On a square A lies left of B by their distance, and not above it. On a strip it lies neither right of B nor above it.
abbrev pub CornerLies : TreeValue → Sheet → ℕ → ℕ → ℕ → List Point → Type 0
CornerLies T Square q A B P =
    ((point_at P A).x + q * leaf_dist T A B ≤ (point_at P B).x) × ((point_at P A).y ≤ (point_at P B).y)
CornerLies T (Strip width) q A B P = ((point_at P A).x ≤ (point_at P B).x) × ((point_at P A).y ≤ (point_at P B).y)

-- the first leaf of the swap's head doesn't lie right of the second
abbrev pub IsInOrder : List Point → List Pair → Type 0
IsInOrder P swap = (point_at P (head swap).i).x ≤ (point_at P (head swap).j).x

-- arranged, on a grid q times finer
pub record Arranged (T : TreeValue) (G : Sheet) (q A B : ℕ) (swaps : List (List Pair)) (P : List Point) : Type 0 where
  pub corner : CornerLies T G q A B P
  pub ordered : All (IsInOrder P) swaps

-- For each valid placement, on each finer grid, there is an arranged one that is valid at the same side.
abbrev pub CanArrange : TreeValue → Sheet → Type 0
CanArrange T G =
    (q s A B : ℕ) (swaps : List (List Pair)) (P : List Point)
    → IsCorner T A B
    → All (IsAdmissible T A B) swaps
    → Valid T G q s P
    → (Q : List Point) × (Valid T G q s Q × Arranged T G q A B swaps Q)
