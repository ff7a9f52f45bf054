-- Symmetric placements on a square, and when none has a side below a bound.
use Rattle.std.specs.Prelude.{◌≡◌, ℕ, ◌+◌, ◌*◌, ◌<◌, ◌≤◌, List, All}
use Rattle.bp_base.specs.declared.path.Pair.{Pair}
use Rattle.bp_base.specs.declared.point.Point.{Point}
use Rattle.bp_base.specs.declared.point.Sheet.TheVariants.{Square}
use Rattle.bp_base.specs.Point.{point_at}
use Rattle.bp_base.specs.Tree.{TreeValue, IsLeaf}
use Rattle.bp_metric.specs.Valid.{Valid}
use Rattle.bp_mirror.specs.declared.kind.MirrorKind.{MirrorKind}
use Rattle.bp_mirror.specs.declared.kind.MirrorKind.TheVariants.{Book, Diagonal}
use Rattle.bp_mirror.specs.Mirror.{IsOnAxis}

-- A book design is told in half units, since a tip on its middle line stands at half the side.
abbrev pub units : MirrorKind → ℕ
units Book = 2
units Diagonal = 1

-- The two tips of a pair are images of one another, and the left one isn't on the other side of the line.
abbrev pub TiesPair : MirrorKind → ℕ → List Point → Pair → Type 0
TiesPair Book s P p = ((point_at P p.i).x + (point_at P p.j).x ≡ s) × ((point_at P p.i).y ≡ (point_at P p.j).y) × ((point_at P p.i).x ≤ (point_at P p.j).x)
TiesPair Diagonal s P p = ((point_at P p.j).x ≡ (point_at P p.i).y) × ((point_at P p.j).y ≡ (point_at P p.i).x) × ((point_at P p.i).x ≤ (point_at P p.i).y)

-- the tip lies on the line
abbrev pub TiesLeaf : MirrorKind → ℕ → List Point → ℕ → Type 0
TiesLeaf Book s P k = 2 * (point_at P k).x ≡ s
TiesLeaf Diagonal s P k = (point_at P k).x ≡ (point_at P k).y

-- valid at side s and symmetric, on a grid q times finer than the tree's
pub record Mirrored (T : TreeValue) (kind : MirrorKind) (mirror : List Pair) (q s : ℕ) (P : List Point) : Type 0 where
  pub valid : Valid T Square q s P
  pub pairs : All (TiesPair kind s P) mirror
  pub axis : (k : ℕ) → IsLeaf T k → IsOnAxis mirror k → TiesLeaf kind s P k

-- No side below L, in the units of the kind, holds a symmetric placement, on any finer grid either.
abbrev pub NoneBelowMirrored : TreeValue → MirrorKind → List Pair → ℕ → Type 0
NoneBelowMirrored T kind mirror L = (q s : ℕ) (P : List Point) → 1 ≤ q → s < q * L → Mirrored T kind mirror (q * units kind) s P → ⊥
