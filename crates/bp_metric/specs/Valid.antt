-- Placements: one point per leaf on the sheet, each pair of leaves at least its tree distance apart in the max-norm.
use Rattle.std.specs.Prelude.{◌≡◌, ℕ, ◌*◌, ◌<◌, ◌≤◌, List, length}
use Rattle.bp_base.specs.declared.point.Point.{Point}
use Rattle.bp_base.specs.declared.point.Sheet.{Sheet}
use Rattle.bp_base.specs.declared.point.Sheet.TheVariants.{Square, Strip}
use Rattle.bp_base.specs.Tree.{TreeValue, leaf_count, IsLeaf}
use Rattle.bp_base.specs.Path.{IsPairOf}
use Rattle.bp_base.specs.Point.{point_at, gap}
use Rattle.bp_metric.specs.Distance.{leaf_dist}

-- i and j are two leaves in order
abbrev pub IsPair : TreeValue → ℕ → ℕ → Type 0
IsPair T i j = IsPairOf (leaf_count T) (record { i = i; j = j })

-- the point lies on the sheet of side s, on a grid q times finer; a strip keeps its width
abbrev pub Lies : Sheet → ℕ → ℕ → Point → Type 0
Lies Square q s p = (p.x ≤ s) × (p.y ≤ s)
Lies (Strip width) q s p = (p.x ≤ q * width) × (p.y ≤ s)

-- Valid at side s on a grid q times finer, on which each tree distance is q times as long.
pub record Valid (T : TreeValue) (G : Sheet) (q s : ℕ) (P : List Point) : Type 0 where
  pub each : length P ≡ leaf_count T
  pub inside : (i : ℕ) → IsLeaf T i → Lies G q s (point_at P i)
  pub far : (i j : ℕ) → IsPair T i j → q * leaf_dist T i j ≤ gap (point_at P i) (point_at P j)

-- No side below L holds a valid placement, on any finer grid either.
abbrev pub NoneBelow : TreeValue → Sheet → ℕ → Type 0
NoneBelow T G L = (q s : ℕ) (P : List Point) → 1 ≤ q → s < q * L → Valid T G q s P → ⊥
