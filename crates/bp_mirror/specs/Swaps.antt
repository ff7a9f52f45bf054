-- Swaps that keep a mirror, and symmetric placements in which the head of each swap is in order.
use Rattle.std.specs.Prelude.{ℕ, List, All, Contains}
use Rattle.bp_base.specs.declared.path.Pair.{Pair}
use Rattle.bp_base.specs.declared.point.Point.{Point}
use Rattle.bp_base.specs.Tree.{TreeValue, IsLeaf}
use Rattle.bp_arrangement.specs.Swaps.{IsSwap, sent}
use Rattle.bp_arrangement.specs.Arranged.{IsInOrder}
use Rattle.bp_mirror.specs.declared.kind.MirrorKind.{MirrorKind}
use Rattle.bp_mirror.specs.Mirror.{IsMirror, IsOnAxis}
use Rattle.bp_mirror.specs.Mirrored.{Mirrored}

-- where a swap sends the two leaves of a pair
abbrev pub sent_pair : List Pair → Pair → Pair
sent_pair swap p = record { i = sent swap p.i; j = sent swap p.j }

-- A swap that sends each left leaf to a left leaf, its right leaf to the right leaf of that one, and each leaf on the line to one on the line.
pub record IsMirrorSwap (T : TreeValue) (mirror swap : List Pair) : Type 0 where
  pub swaps : IsSwap T swap
  pub pairs : All (λ p. Contains mirror (sent_pair swap p)) mirror
  pub axis : (k : ℕ) → IsLeaf T k → IsOnAxis mirror k → IsOnAxis mirror (sent swap k)

-- For each symmetric placement, on each grid, there is one at the same side in which the heads are in order.
abbrev pub CanArrangeMirrored : TreeValue → Type 0
CanArrangeMirrored T =
    (kind : MirrorKind) (mirror : List Pair) (q s : ℕ) (swaps : List (List Pair)) (P : List Point)
    → IsMirror T mirror
    → All (IsMirrorSwap T mirror) swaps
    → Mirrored T kind mirror q s P
    → (Q : List Point) × (Mirrored T kind mirror q s Q × All (IsInOrder Q) swaps)
