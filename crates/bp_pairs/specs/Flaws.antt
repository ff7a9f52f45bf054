-- What is wrong with points: the first leaf outside the sheet or, where none is outside, the first pair that is too near.
use Rattle.std.specs.Prelude.{◌≡◌, ◌⊎◌, ℕ, ◌<◌, ◌≤◌, List}
use Rattle.bp_base.specs.declared.point.Point.{Point}
use Rattle.bp_base.specs.declared.point.Sheet.{Sheet}
use Rattle.bp_base.specs.Tree.{TreeValue, IsLeaf}
use Rattle.bp_base.specs.Point.{point_at, gap}
use Rattle.bp_metric.specs.Distance.{leaf_dist}
use Rattle.bp_metric.specs.Valid.{IsPair, Lies}
use Rattle.bp_pairs.specs.declared.valid.Flaw.{Flaw}
use Rattle.bp_pairs.specs.declared.valid.Flaw.TheVariants.{Outside, Near}

-- leaf i lies outside the sheet of side s
abbrev pub IsOutside : TreeValue → Sheet → ℕ → List Point → ℕ → Type 0
IsOutside T G s P i = IsLeaf T i × (Lies G 1 s (point_at P i) → ⊥)

-- no leaf before i does
pub record IsFirstOutside (T : TreeValue) (G : Sheet) (s : ℕ) (P : List Point) (i : ℕ) : Type 0 where
  pub outside : IsOutside T G s P i
  pub earlier : (k : ℕ) → k < i → IsOutside T G s P k → ⊥

-- leaves i and j are at least their distance apart
abbrev pub AreFar : TreeValue → List Point → ℕ → ℕ → Type 0
AreFar T P i j = leaf_dist T i j ≤ gap (point_at P i) (point_at P j)

-- leaves i and j are nearer than their distance
abbrev pub AreTooNear : TreeValue → List Point → ℕ → ℕ → Type 0
AreTooNear T P i j = IsPair T i j × (gap (point_at P i) (point_at P j) < leaf_dist T i j)

-- no pair of a lesser number is
pub record AreFirstNear (T : TreeValue) (P : List Point) (i j : ℕ) : Type 0 where
  pub near : AreTooNear T P i j
  pub earlier : (k l : ℕ) → AreTooNear T P k l → (k < i) ⊎ ((k ≡ i) × (l < j)) → ⊥

-- all leaves lie on the sheet
abbrev pub AreInside : TreeValue → Sheet → ℕ → List Point → Type 0
AreInside T G s P = (i : ℕ) → IsLeaf T i → Lies G 1 s (point_at P i)

-- the flaw of points at side s
abbrev pub IsFlaw : TreeValue → Sheet → ℕ → List Point → Flaw → Type 0
IsFlaw T G s P (Outside i) = IsFirstOutside T G s P i
IsFlaw T G s P (Near i j) = AreInside T G s P × AreFirstNear T P i j
